-- Numbers of a table whose texts are drawn: none is taken or stands twice, and there are no more than the table has names.
use Rattle.std.proofs.Common.{◌≡◌, ℕ, zero, suc, ◌*◌, ◌<◌, ◌≤◌, ◌^◌, Bool, true, false, ◌&&◌, ◌||◌, ◌==◌, if◌then◌else◌, List, [], ◌∷◌, ◌++◌, All, length, take, refl, sym, ap, ap₂, subst, ◌∙◌, eq-eqb, eqb-true, eqb, nat_lt, ltb-true, arith}
use Rattle.std.proofs.Math.Nat.{mul-le-mul_left, mul_comm}
use Rattle.std.proofs.Math.Seq.{take-append_seam}
use Rattle.std.proofs.lemmas.Bool.{both_ways, false_from_ne_true, or_left, or_right}
use Rattle.std.proofs.lemmas.Bool.Decides.{nat_tests}
use Rattle.std.proofs.lemmas.List.{append-nil, append_assoc, length-map, length-take-le, take_all, take-map}
use Rattle.std.proofs.lemmas.List.Elements.{All-head, All-tail, All-take}
use Rattle.std.proofs.lemmas.Map.Steps.{length-le_from_distinct_below}
use Rattle.std.specs.List.{AllByRecursion, IsDistinct, list_any}
use Rattle.cv_inline.specs.Draws.{drawn_texts, greatest_end, is_among, least_free, numbered_text, same_text, texts_from}
use Rattle.cv_inline_laws.proofs.draws.Texts.{as_many_texts, drawn_fit, texts_differ, texts_free}
use Rattle.cv_inline_draws.specs.names.Texts.{is_listed, text_at, texts_at, with_texts}
use Rattle.cv_inline_draws.proofs.names.Texts.{same_text_refl}

-- the texts tell which numbers are taken, and which are apart

module _ (table : List (List ℕ)) where
  text_among : (taken : List ℕ) (y : ℕ) → is_listed taken y ≡ true → is_among (texts_at table taken) (text_at table y) ≡ true
  text_among [] y e = absurd (both_ways false refl e)
  text_among (x ∷ taken) y e = go (x == y) refl e (text_among taken y)
    where
      go : (b : Bool) → (x == y) ≡ b → (b || is_listed taken y) ≡ true → (is_listed taken y ≡ true → is_among (texts_at table taken) (text_at table y) ≡ true) → is_among (texts_at table (x ∷ taken)) (text_at table y) ≡ true
      go true i e k = or_left (same_text (text_at table y) (text_at table x)) _ (ap (λ z. same_text (text_at table y) (text_at table z)) (eqb-true x y i) ∙ same_text_refl (text_at table y))
      go false i e k = or_right (same_text (text_at table y) (text_at table x)) _ (k e)

  pub none_listed : (taken ys : List ℕ) → AllByRecursion (λ t. is_among (texts_at table taken) t ≡ false) (texts_at table ys) → AllByRecursion (λ y. is_listed taken y ≡ false) ys
  none_listed taken [] f = tt
  none_listed taken (y ∷ ys) f = (false_from_ne_true (is_listed taken y) (λ e. both_ways _ f.0 (text_among taken y e)), none_listed taken ys f.1)

  others : (x : ℕ) (ys : List ℕ) → AllByRecursion (λ t. same_text (text_at table x) t ≡ false) (texts_at table ys) → AllByRecursion (λ y. (x == y) ≡ false) ys
  others x [] f = tt
  others x (y ∷ ys) f = (false_from_ne_true (x == y) (λ e. both_ways _ f.0 (ap (λ z. same_text (text_at table x) (text_at table z)) (sym (eqb-true x y e)) ∙ same_text_refl (text_at table x))), others x ys f.1)

  pub apart_texts : (ys : List ℕ) → IsDistinct same_text (texts_at table ys) → IsDistinct ◌==◌ ys
  unfolding IsDistinct
  apart_texts [] f = tt
  apart_texts (y ∷ ys) f = (others y ys f.0, apart_texts ys f.1)

-- the first drawn texts are those of the first bases
take_texts_from : (taken : List (List ℕ)) (n : ℕ) (bases : List (List ℕ)) (k : ℕ) → take k (texts_from taken n bases) ≡ texts_from taken n (take k bases)
take_texts_from taken n bases zero = refl
take_texts_from taken n [] (suc k) = refl
take_texts_from taken n (b ∷ bs) (suc k) =
    let m : ℕ = least_free (λ k. is_among taken (numbered_text b k)) (length taken) n in ap (λ ts. numbered_text b m ∷ ts) (take_texts_from taken (suc m) bs k)

under : (n : ℕ) (xs : List ℕ) → All (λ x. x < n) xs → (q : ℕ) → list_any (eqb q) xs ≡ true → q < n
under n [] f q e = absurd (both_ways false refl e)
under n (x ∷ xs) f q e = go (eqb q x) refl e (under n xs (All-tail (λ y. y < n) x xs f) q)
  where
    go : (b : Bool) → eqb q x ≡ b → (b || list_any (eqb q) xs) ≡ true → (list_any (eqb q) xs ≡ true → q < n) → q < n
    go true i e k = subst (λ y. y < n) (sym (eqb-true q x i)) (All-head (λ y. y < n) x xs f)
    go false i e k = k e

-- as many as these products stay small
product : (a b : ℕ) → a ≤ suc (2 ^ 32) → b ≤ 2 ^ 64 → a * suc b ≤ 10 ^ 63
product a b f g = let h : suc b * a ≤ suc b * suc (2 ^ 32) = mul-le-mul_left (suc b) f in omega (arith, h, mul_comm a (suc b))

-- names of a table, with the texts that are drawn for bases
module _ (table : List (List ℕ)) (taken names : List ℕ) (bases : List (List ℕ)) (below : All (λ x. x < length table) names) (texts : texts_at table names ≡ drawn_texts (texts_at table taken) bases) where
  abbrev start : ℕ
  start = suc (greatest_end (texts_at table taken))

  pub many : length names ≡ length bases
  many = sym (length-map names (text_at table)) ∙ (ap length texts ∙ as_many_texts (texts_at table taken) start bases)

  fits : (k : ℕ) → k ≤ length bases → k * suc (length taken) ≤ 10 ^ 63 → length (take k bases) * suc (length (texts_at table taken)) ≤ 10 ^ 63
  fits k f h =
      let e : length (take k bases) ≡ k = length-take-le k bases f in subst (λ n. n * suc (length (texts_at table taken)) ≤ 10 ^ 63) (sym e) (subst (λ n. k * suc n ≤ 10 ^ 63) (sym (length-map taken (text_at table))) h)

  -- so many of the first names are apart
  first_apart : (k : ℕ) → k ≤ length bases → k * suc (length taken) ≤ 10 ^ 63 → IsDistinct ◌==◌ (take k names)
  first_apart k f h =
      let e : texts_at table (take k names) ≡ texts_from (texts_at table taken) start (take k bases) = sym (take-map (text_at table) k names) ∙ (ap (take k) texts ∙ take_texts_from (texts_at table taken) start bases k) in
      apart_texts table (take k names) (subst (IsDistinct same_text) (sym e) (texts_differ (texts_at table taken) start (take k bases) (drawn_fit (texts_at table taken) (take k bases) (fits k f h))))

  module _ (few : length table ≤ 2 ^ 32) (room : length taken ≤ 2 ^ 64) where
    no_more : length table < length bases → ⊥
    no_more f =
        let k : ℕ = suc (length table) in
        let l : length (take k names) ≤ length table = length-le_from_distinct_below (take k names) (length table) (first_apart k (omega arith) (product k (length taken) (omega arith) room)) (under (length table) (take k names) (All-take (λ x. x < length table) k names below)) in
        let e : length (take k names) ≡ k = length-take-le k names (omega (arith, many)) in omega arith

    few_bases : length bases ≤ length table
    few_bases = go (nat_lt (length table) (length bases)) refl
      where
        go : (b : Bool) → nat_lt (length table) (length bases) ≡ b → length bases ≤ length table
        go true e = absurd (no_more (ltb-true (length table) (length bases) e))
        go false e = grind (arith, nat_tests)

    bases_fit : length bases * suc (length taken) ≤ 10 ^ 63
    bases_fit = product (length bases) (length taken) (let h = few_bases in omega arith) room

    pub apart : IsDistinct ◌==◌ names
    apart = subst (IsDistinct ◌==◌) (take_all (length bases) names (omega (arith, many))) (first_apart (length bases) (omega arith) bases_fit)

    pub new : AllByRecursion (λ y. is_listed taken y ≡ false) names
    new =
        let h : length bases * suc (length (texts_at table taken)) ≤ 10 ^ 63 = subst (λ n. length bases * suc n ≤ 10 ^ 63) (sym (length-map taken (text_at table))) bases_fit in
        none_listed table taken names (subst (AllByRecursion (λ t. is_among (texts_at table taken) t ≡ false)) (sym texts) (texts_free (texts_at table taken) start bases (drawn_fit (texts_at table taken) bases h)))

-- a table that gets texts keeps its names
more_texts : (names : List (List ℕ)) (ts : List (List ℕ)) → (more : List (List ℕ)) × (with_texts names ts ≡ names ++ more)
more_texts names [] = ([], sym (append-nil names))
more_texts names (t ∷ ts) = go (is_among names t) (λ ns. more_texts ns ts)
  where
    go : (b : Bool) → ((ns : List (List ℕ)) → (more : List (List ℕ)) × (with_texts ns ts ≡ ns ++ more)) → (more : List (List ℕ)) × (with_texts (if b then names else names ++ t ∷ []) ts ≡ names ++ more)
    go true f = f names
    go false f = let m = f (names ++ t ∷ []) in (t ∷ m.0, m.1 ∙ append_assoc names (t ∷ []) m.0)

pub names_kept : (names : List (List ℕ)) (ts : List (List ℕ)) → take (length names) (with_texts names ts) ≡ names
names_kept names ts = let m = more_texts names ts in ap (take (length names)) m.1 ∙ take-append_seam names m.0
