-- The first item that breaks a rule is found from left to right.
use Rattle.std.proofs.Common.{◌≡◌, Bool, true, false, if◌then◌else◌, List, [], ◌∷◌, ◌++◌, Some, None, refl, ap, ◌∙◌, subst}
use Rattle.cv_parse_grammar.specs.InOrder.{Rule, AllObey, BreaksFirst, later, first_broken}

module _ {A : Type 0} where
  -- nothing is broken

  none_then : (r : Rule A) (a : A) (l : List A) (b : Bool) → r [] a l ≡ b → (if b then first_broken (later r a) l else Some a) ≡ None → (first_broken (later r a) l ≡ None → AllObey (later r a) l) → AllObey r (a ∷ l)
  none_then r a l false i e f before c behind s = absurd (cc)
  none_then r a l true i e f [] c behind s = let j : a ≡ c = cc in let k : l ≡ behind = cc in subst (λ z. r [] z behind ≡ true) j (subst (λ z. r [] a z ≡ true) k i)
  none_then r a l true i e f (x ∷ before) c behind s = let j : a ≡ x = cc in let k : l ≡ before ++ c ∷ behind = cc in subst (λ z. r (z ∷ before) c behind ≡ true) j (f e before c behind k)

  pub none_broken : (r : Rule A) (l : List A) → first_broken r l ≡ None → AllObey r l
  unfolding first_broken
  none_broken r [] e [] a behind s = absurd (cc)
  none_broken r [] e (x ∷ before) a behind s = absurd (cc)
  none_broken r (a ∷ l) e before c behind s = none_then r a l (r [] a l) refl e (λ i. none_broken (later r a) l i) before c behind s

  pub all_obeyed : (r : Rule A) (l : List A) → AllObey r l → first_broken r l ≡ None
  unfolding first_broken
  all_obeyed r [] w = refl
  all_obeyed r (a ∷ l) w = ap (λ b. if b then first_broken (later r a) l else Some a) (w [] a l refl) ∙ all_obeyed (later r a) l (λ before b behind s. w (a ∷ before) b behind (ap (λ z. a ∷ z) s))

  -- one is broken

  one_then : (r : Rule A) (a c : A) (l : List A) (b : Bool) → r [] a l ≡ b → (if b then first_broken (later r a) l else Some a) ≡ Some c → (first_broken (later r a) l ≡ Some c → BreaksFirst (later r a) l c) → BreaksFirst r (a ∷ l) c
  one_then r a c l false i e f =
      let same : a ≡ c = cc in
      subst (BreaksFirst r (a ∷ l)) same (record { before = []; behind = l; split = refl; earlier = λ front b back s. absurd (not_nil front b back s); breaks = i })
    where
      not_nil : (front : List A) (b : A) (back : List A) → [] ≡ front ++ b ∷ back → ⊥
      not_nil [] b back s = cc
      not_nil (x ∷ front) b back s = cc
  one_then r a c l true i e f = let w = f e in record { before = a ∷ w.before; behind = w.behind; split = ap (λ z. a ∷ z) w.split; earlier = earlier_then w; breaks = w.breaks }
    where
      earlier_then : (w : BreaksFirst (later r a) l c) (front : List A) (b : A) (back : List A) → a ∷ w.before ≡ front ++ b ∷ back → r front b (back ++ c ∷ w.behind) ≡ true
      earlier_then w [] b back s = let j : a ≡ b = cc in let k : w.before ≡ back = cc in subst (λ z. r [] z (back ++ c ∷ w.behind) ≡ true) j (subst (λ z. r [] a z ≡ true) (w.split ∙ ap (λ z. z ++ c ∷ w.behind) k) i)
      earlier_then w (x ∷ front) b back s = let j : a ≡ x = cc in let k : w.before ≡ front ++ b ∷ back = cc in subst (λ z. r (z ∷ front) b (back ++ c ∷ w.behind) ≡ true) j (w.earlier front b back k)

  pub one_broken : (r : Rule A) (l : List A) (c : A) → first_broken r l ≡ Some c → BreaksFirst r l c
  unfolding first_broken
  one_broken r [] c e = absurd (cc)
  one_broken r (a ∷ l) c e = one_then r a c l (r [] a l) refl e (λ i. one_broken (later r a) l c i)

  first_found : (r : Rule A) (l : List A) (c : A) (before behind : List A) → l ≡ before ++ c ∷ behind → ((front : List A) (b : A) (back : List A) → before ≡ front ++ b ∷ back → r front b (back ++ c ∷ behind) ≡ true) → r before c behind ≡ false → first_broken r l ≡ Some c
  unfolding first_broken
  first_found r l c [] behind s w e = ap (first_broken r) s ∙ ap (λ b. if b then first_broken (later r c) behind else Some c) e
  first_found r l c (a ∷ before) behind s w e =
      ap (first_broken r) s
      ∙ (ap (λ b. if b then first_broken (later r a) (before ++ c ∷ behind) else Some a) (w [] a before refl)
      ∙ first_found (later r a) (before ++ c ∷ behind) c before behind refl (λ front b back i. w (a ∷ front) b back (ap (λ z. a ∷ z) i)) e)

  pub first_is_found : (r : Rule A) (l : List A) (c : A) → BreaksFirst r l c → first_broken r l ≡ Some c
  first_is_found r l c w = first_found r l c w.before w.behind w.split w.earlier w.breaks
