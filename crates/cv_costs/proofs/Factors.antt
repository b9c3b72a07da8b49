-- Factors of a product of parameters, one by one.
use Rattle.std.proofs.Common.{◌≡◌, ℕ, zero, suc, ◌+◌, ◌<◌, ◌≤◌, ◌≢◌, Bool, true, false, cond, List, [], ◌∷◌, ◌++◌, length, drop, take, get_or, refl, ap, ap₂, sym, ◌∙◌, arith, append_assoc, add-one}
use Rattle.std.proofs.lemmas.Bool.{eq-eqb, ne_eqb}
use Rattle.std.proofs.lemmas.List.{drop_all, drop_more, get_or_default, set_split, take_all, take_more}
use Rattle.std.specs.Prelude.{◌==◌, slice_set}
use Rattle.std.specs.List.{insert}
use Rattle.cv_pool.specs.declared.names.names.NameId.{NameId}
use Rattle.cv_costs.specs.Factors.{factor, factors_of, is_before, with_parameter}

-- what a parameter does to the factor that stands first

chosen : (order : List ℕ) (n : ℕ) (f : NameId × ℕ) (fs : List (NameId × ℕ)) → (b c : Bool) → (n == f.0.0) ≡ b → is_before order n f.0.0 ≡ c → with_parameter order n (f ∷ fs) ≡ cond b ((f.0, f.1 + 1) ∷ fs) (cond c (factor n ∷ f ∷ fs) (f ∷ with_parameter order n fs))
unfolding with_parameter
chosen order n f fs b c e h = ap₂ (λ x y. cond x ((f.0, f.1 + 1) ∷ fs) (cond y (factor n ∷ f ∷ fs) (f ∷ with_parameter order n fs))) e h

module _ (order : List ℕ) (n : ℕ) (xs all : List (NameId × ℕ)) (k : ℕ) (goes : take k xs ++ with_parameter order n (drop k xs) ≡ all) where
  pub put_end : length xs ≤ k → xs ++ factor n ∷ [] ≡ all
  unfolding with_parameter
  put_end l = ap₂ (λ ys zs. ys ++ with_parameter order n zs) (sym (take_all k xs l)) (sym (drop_all k xs l)) ∙ goes

  module _ (f : NameId × ℕ) (within : k < length xs) (read : f ≡ get_or xs k f) where
    opened : drop k xs ≡ f ∷ drop (k + 1) xs
    opened = drop_more xs k f within ∙ ap (λ g. g ∷ drop (k + 1) xs) (sym read)

    here : (b c : Bool) → (n == f.0.0) ≡ b → is_before order n f.0.0 ≡ c → take k xs ++ cond b ((f.0, f.1 + 1) ∷ drop (k + 1) xs) (cond c (factor n ∷ f ∷ drop (k + 1) xs) (f ∷ with_parameter order n (drop (k + 1) xs))) ≡ all
    here b c e h = ap (λ ys. take k xs ++ ys) (sym (ap (with_parameter order n) opened ∙ chosen order n f (drop (k + 1) xs) b c e h)) ∙ goes

    pub grown : n ≡ f.0.0 → (g : NameId × ℕ) → g ≡ get_or xs k g → slice_set xs k (g.0, g.1 + 1) ≡ all
    grown e g same =
        let equal : g ≡ f = same ∙ (get_or_default xs k g f within ∙ sym read) in
        ap (λ (x : NameId × ℕ). slice_set xs k (x.0, x.1 + 1)) equal
        ∙ (set_split xs k (f.0, f.1 + 1) within
        ∙ (ap (λ m. take k xs ++ (f.0, f.1 + 1) ∷ drop m xs) (sym (add-one k))
        ∙ here true (is_before order n f.0.0) (eq-eqb n f.0.0 e) refl))

    pub placed : n ≢ f.0.0 → is_before order n f.0.0 ≡ true → (now : List (NameId × ℕ)) → now ≡ insert xs k (factor n) → now ≡ all
    placed other first now e =
        e
        ∙ (ap (λ ys. take k xs ++ factor n ∷ ys) opened
        ∙ here false true (ne_eqb n f.0.0 other) first)

    pub passed : n ≢ f.0.0 → is_before order n f.0.0 ≡ false → take (k + 1) xs ++ with_parameter order n (drop (k + 1) xs) ≡ all
    passed other behind =
        ap (λ ys. ys ++ with_parameter order n (drop (k + 1) xs)) (take_more xs k f within)
        ∙ (append_assoc (take k xs) (get_or xs k f ∷ []) (with_parameter order n (drop (k + 1) xs))
        ∙ (ap (λ g. take k xs ++ g ∷ with_parameter order n (drop (k + 1) xs)) (sym read)
        ∙ here false false (ne_eqb n f.0.0 other) behind))

-- no parameter stands more often among the factors than there are parameters

with_few : (order : List ℕ) (n m : ℕ) (fs : List (NameId × ℕ)) → ((k : ℕ) (d : NameId × ℕ) → k < length fs → (get_or fs k d).1 ≤ m) → (k : ℕ) (d : NameId × ℕ) → k < length (with_parameter order n fs) → (get_or (with_parameter order n fs) k d).1 ≤ m + 1
unfolding with_parameter
with_few order n m [] a zero d l = omega arith
with_few order n m [] a (suc k) d l = absurd (omega arith)
with_few order n m (f ∷ fs) a k d l = go (n == f.0.0) (is_before order n f.0.0) (λ j h. with_few order n m fs (λ i e w. a (suc i) e (omega arith)) j d h) k l
  where
    go : (b c : Bool) → ((j : ℕ) → j < length (with_parameter order n fs) → (get_or (with_parameter order n fs) j d).1 ≤ m + 1)
        → (k : ℕ) → k < length (cond b ((f.0, f.1 + 1) ∷ fs) (cond c (factor n ∷ f ∷ fs) (f ∷ with_parameter order n fs))) → (get_or (cond b ((f.0, f.1 + 1) ∷ fs) (cond c (factor n ∷ f ∷ fs) (f ∷ with_parameter order n fs))) k d).1 ≤ m + 1
    go true c rest zero l = omega (arith, a zero d (omega arith))
    go true c rest (suc k) l = omega (arith, a (suc k) d (omega arith))
    go false true rest zero l = omega arith
    go false true rest (suc k) l = omega (arith, a k d (omega arith))
    go false false rest zero l = omega (arith, a zero d (omega arith))
    go false false rest (suc k) l = rest k (omega arith)

factors_few : (order ns : List ℕ) (k : ℕ) (d : NameId × ℕ) → k < length (factors_of order ns) → (get_or (factors_of order ns) k d).1 ≤ length ns
factors_few order [] k d l = absurd (omega arith)
factors_few order (n ∷ ns) k d l = omega (arith, with_few order n (length ns) (factors_of order ns) (factors_few order ns) k d l)

pub few : (order ns : List ℕ) (xs : List (NameId × ℕ)) (m : ℕ) → xs ≡ factors_of order ns → length ns + 1 < m → (k : ℕ) (d : NameId × ℕ) → k < length xs → (get_or xs k d).1 + 1 < m
few order ns xs m e l k d h =
    let h' : k < length (factors_of order ns) = omega (arith, ap length e) in
    let same = ap (λ (ys : List (NameId × ℕ)). (get_or ys k d).1) e in
    omega (arith, factors_few order ns k d h', same)

pub fewer : (order ns : List ℕ) (xs : List (NameId × ℕ)) (m : ℕ) → xs ≡ factors_of order ns → length ns < m → (k : ℕ) (d : NameId × ℕ) → k < length xs → (get_or xs k d).1 < m
fewer order ns xs m e l k d h =
    let h' : k < length (factors_of order ns) = omega (arith, ap length e) in
    let same = ap (λ (ys : List (NameId × ℕ)). (get_or ys k d).1) e in
    omega (arith, factors_few order ns k d h', same)
