-- Which names are current indices, by the first places that a map keeps of them.
use Rattle.std.proofs.Common.{◌≡◌, ℕ, ◌<◌, ◌≤◌, ◌==◌, nat_eq, ◌⊎◌, inl, inr, Bool, true, false, List, [], ◌∷◌, ◌++◌, length, take, get_or, Some, None, refl, ap, sym, ◌∙◌, subst, arith, length-append}
use Rattle.std.specs.List.{list_any}
use Rattle.std.proofs.lemmas.Bool.{eqb-true, eq-eqb, ne_eqb, cases_Bool, false_from_ne_true}
use Rattle.std.proofs.lemmas.List.{get_or-take, get_or_append_left, get_or_at, take_all, length-take-le, get_or_default}
use Rattle.std.proofs.lemmas.List.Folds.{Any-from_list_any, list_any_at}
use Rattle.std.specs.HashMap.{Updates}
use Rattle.std.specs.Map.{lookup}
use Rattle.cv_parse_names.specs.indices.Current.{Numbers, numbers_of, IsKept, AreKept}

abbrev pub is_among : List ℕ → ℕ → Bool
is_among l x = list_any (λ i. i == x) l

pub record Held (names : List ℕ) (places : Numbers) (count x : ℕ) : Type 0 where
  pub first : ℕ
  pub is : numbers_of places x ≡ Some first
  pub within : first < count
  pub same : get_or names first 0 ≡ x

-- one of the first indices is kept at one of the first places
pub held : (names : List ℕ) (places : Numbers) (count x : ℕ) → AreKept names places → count ≤ length names → is_among (take count names) x ≡ true → Held names places count x
held names places count x kept few e =
    let a = Any-from_list_any (λ i. i == x) (take count names) e in
    let l : a.0 < count = omega (arith, a.2, length-take-le count names few) in
    let is : get_or names a.0 0 ≡ x = sym (get_or-take count names a.0 0 l) ∙ (get_or_default (take count names) a.0 0 a.1 a.2 ∙ (a.3 ∙ eqb-true a.1 x a.4)) in
    let m : a.0 < length names = omega arith in
    let k = kept a.0 m in
    let w : k.within ≡ k.within = refl in
    record {
      first = k.first;
      is = ap (numbers_of places) (sym is) ∙ k.is;
      within = omega (arith, k.within);
      same = k.same ∙ is;
    }

pub not_there : (names : List ℕ) (places : Numbers) (count x : ℕ) → AreKept names places → count ≤ length names → numbers_of places x ≡ None → false ≡ is_among (take count names) x
not_there names places count x kept few e =
    sym (false_from_ne_true (is_among (take count names) x) (λ t. let h = held names places count x kept few t in let c : Some h.first ≡ None = sym h.is ∙ e in absurd (cc)))

some_same : {x y : ℕ} → Some x ≡ Some y → x ≡ y
some_same e = cc

pub not_within : (names : List ℕ) (places : Numbers) (count x q : ℕ) → AreKept names places → count ≤ length names → numbers_of places x ≡ Some q → count ≤ q → false ≡ is_among (take count names) x
not_within names places count x q kept few e g =
    sym (false_from_ne_true (is_among (take count names) x) (λ t.
    let h = held names places count x kept few t in
    let c : h.first ≡ q = some_same (sym h.is ∙ e) in
    absurd (omega (arith, h.within))))

pub there : (names : List ℕ) (places : Numbers) (count x q : ℕ) → AreKept names places → count ≤ length names → numbers_of places x ≡ Some q → q < count → nat_eq (get_or names q 0) x ≡ is_among (take count names) x
there names places count x q kept few e l = by_cases (cases_Bool (is_among (take count names) x))
  where
    by_cases : (is_among (take count names) x ≡ true) ⊎ (is_among (take count names) x ≡ false) → nat_eq (get_or names q 0) x ≡ is_among (take count names) x
    by_cases (inl t) =
        let h = held names places count x kept few t in
        eq-eqb (get_or names q 0) x (ap (λ k. get_or names k 0) (some_same (sym e ∙ h.is)) ∙ h.same) ∙ sym t
    by_cases (inr f) =
        false_from_ne_true (nat_eq (get_or names q 0) x) (λ t.
        let m : q < length (take count names) = omega (arith, length-take-le count names few) in
        let c : is_among (take count names) x ≡ true = list_any_at (λ i. i == x) (take count names) q 0 m (ap (λ i. i == x) (get_or-take count names q 0 l) ∙ t) in
        let d : true ≡ false = sym c ∙ f in
        absurd (cc)) ∙ sym f

cut_kept : (names : List ℕ) (places : Numbers) (count : ℕ) → AreKept names places → count ≤ length names → AreKept (take count names) places
cut_kept names places count kept few = λ k l.
    let m : k < count = omega (arith, length-take-le count names few) in
    let n : k < length names = omega arith in
    let h = kept k n in
    let below : h.first < count = omega (arith, h.within) in
    let here : get_or (take count names) k 0 ≡ get_or names k 0 = get_or-take count names k 0 m in
    record {
      first = h.first;
      is = ap (numbers_of places) here ∙ h.is;
      within = h.within;
      same = get_or-take count names h.first 0 below ∙ (h.same ∙ sym here);
    }

same_numbers : (m n : Numbers) (x : ℕ) → n.entries ≡ m.entries → numbers_of n x ≡ numbers_of m x
same_numbers m n x e = ap (λ (l : List (ℕ × ℕ)). lookup (nat_eq x) l) e

moved_kept : (names : List ℕ) (m n : Numbers) (k : ℕ) → numbers_of n (get_or names k 0) ≡ numbers_of m (get_or names k 0) → IsKept names m k → IsKept names n k
moved_kept names m n k e h = record { first = h.first; is = e ∙ h.is; within = h.within; same = h.same }

front_kept : (names : List ℕ) (m n : Numbers) (x k : ℕ) → k < length names → numbers_of n (get_or names k 0) ≡ numbers_of m (get_or names k 0) → IsKept names m k → IsKept (names ++ x ∷ []) n k
front_kept names m n x k l e h =
    let below : h.first < length names = omega (arith, h.within) in
    let here : get_or (names ++ x ∷ []) k 0 ≡ get_or names k 0 = get_or_append_left names (x ∷ []) 0 k l in
    record {
      first = h.first;
      is = ap (numbers_of n) here ∙ (e ∙ h.is);
      within = h.within;
      same = get_or_append_left names (x ∷ []) 0 h.first below ∙ (h.same ∙ sym here);
    }

last_or_before : (names : List ℕ) (x k : ℕ) → k < length (names ++ x ∷ []) → (k < length names) ⊎ (k ≡ length names)
last_or_before names x k l = grind (arith, length-append names (x ∷ []))

last_is : (names : List ℕ) (x k : ℕ) → k ≡ length names → get_or (names ++ x ∷ []) k 0 ≡ x
last_is names x k e = get_or_at names x [] 0 k (sym e)

known_kept : (names : List ℕ) (m : Numbers) (x : ℕ) → AreKept names m → is_among names x ≡ true → AreKept (names ++ x ∷ []) m
known_kept names m x kept e = λ k l. by_cases k (last_or_before names x k l)
  where
    by_cases : (k : ℕ) → (k < length names) ⊎ (k ≡ length names) → IsKept (names ++ x ∷ []) m k
    by_cases k (inl l) = front_kept names m m x k l refl (kept k l)
    by_cases k (inr l) =
        let h = held names m (length names) x kept (omega arith) (ap (λ z. is_among z x) (take_all (length names) names (omega arith)) ∙ e) in
        record {
          first = h.first;
          is = ap (numbers_of m) (last_is names x k l) ∙ h.is;
          within = omega (arith, h.within);
          same = get_or_append_left names (x ∷ []) 0 h.first h.within ∙ (h.same ∙ sym (last_is names x k l));
        }

other_name : (names : List ℕ) (x k : ℕ) → is_among names x ≡ false → k < length names → nat_eq x (get_or names k 0) ≡ false
other_name names x k e l = ne_eqb x (get_or names k 0) (λ t.
    let a : is_among names x ≡ true = list_any_at (λ i. i == x) names k 0 l (eq-eqb (get_or names k 0) x (sym t)) in
    let b : true ≡ false = sym a ∙ e in
    absurd (cc))

noted_kept : (names : List ℕ) (m n : Numbers) (x count : ℕ) → AreKept names m → is_among names x ≡ false → Updates nat_eq m n x (Some count) → AreKept names n
noted_kept names m n x count kept e u = λ k l. moved_kept names m n k (u.2 (get_or names k 0) (other_name names x k e l)) (kept k l)

new_kept : (names : List ℕ) (m n : Numbers) (x : ℕ) → AreKept names m → is_among names x ≡ false → Updates nat_eq m n x (Some (length names)) → AreKept (names ++ x ∷ []) n
new_kept names m n x kept e u = λ k l. by_cases k (last_or_before names x k l)
  where
    by_cases : (k : ℕ) → (k < length names) ⊎ (k ≡ length names) → IsKept (names ++ x ∷ []) n k
    by_cases k (inl l) = front_kept names m n x k l (u.2 (get_or names k 0) (other_name names x k e l)) (kept k l)
    by_cases k (inr l) = record {
      first = k;
      is = ap (numbers_of n) (last_is names x k l) ∙ (u.1 ∙ ap Some (sym l));
      within = omega arith;
      same = refl;
    }

-- the steps of going below a replication

pub still_kept : (names cut : List ℕ) (m n : Numbers) (count : ℕ) → AreKept names m → count ≤ length names → cut ≡ take count names → n.entries ≡ m.entries → AreKept cut n
still_kept names cut m n count kept few e u =
    subst (λ (l : List ℕ). AreKept l n) (sym e) (λ k l. moved_kept (take count names) m n k (same_numbers m n (get_or (take count names) k 0) u) (cut_kept names m count kept few k l))

pub cut_noted : (names cut : List ℕ) (m n : Numbers) (x count : ℕ) → AreKept names m → count ≤ length names → cut ≡ take count names → is_among (take count names) x ≡ false → Updates nat_eq m n x (Some count) → AreKept cut n
cut_noted names cut m n x count kept few e f u = subst (λ (l : List ℕ). AreKept l n) (sym e) (noted_kept (take count names) m n x count (cut_kept names m count kept few) f u)

pub entered_new : (names cut new : List ℕ) (m n : Numbers) (x count : ℕ) → AreKept names m → count ≤ length names → cut ≡ take count names → new ≡ cut ++ x ∷ [] → is_among (take count names) x ≡ false → Updates nat_eq m n x (Some count) → AreKept new n
entered_new names cut new m n x count kept few e g f u =
    subst (λ (l : List ℕ). AreKept l n) (sym (g ∙ ap (λ l. l ++ x ∷ []) e))
    (new_kept (take count names) m n x (cut_kept names m count kept few) f (subst (λ (k : ℕ). Updates nat_eq m n x (Some k)) (sym (length-take-le count names few)) u))

pub entered_known : (names cut new : List ℕ) (m : Numbers) (x count : ℕ) → AreKept names m → count ≤ length names → cut ≡ take count names → new ≡ cut ++ x ∷ [] → is_among (take count names) x ≡ true → AreKept new m
entered_known names cut new m x count kept few e g f =
    subst (λ (l : List ℕ). AreKept l m) (sym (g ∙ ap (λ l. l ++ x ∷ []) e)) (known_kept (take count names) m x (cut_kept names m count kept few) f)
