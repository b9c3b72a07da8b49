-- The first item that breaks a rule, where the first items of the list obey it.
use Rattle.std.proofs.Common.{◌≡◌, true, false, if◌then◌else◌, List, [], ◌∷◌, ◌++◌, Some, None, refl, ap, sym, ◌∙◌, append_assoc, append-nil}
use Rattle.cv_parse_grammar.specs.InOrder.{Rule, later, first_broken}

module _ {A : Type 0} where
  -- the rule for the items behind some
  abbrev pub rule_behind : Rule A → List A → Rule A
  rule_behind r front before = r (front ++ before)

  -- rules that say the same
  same_broken : (r s : Rule A) (l : List A) → ((before : List A) (a : A) (behind : List A) → r before a behind ≡ s before a behind) → first_broken r l ≡ first_broken s l
  unfolding first_broken
  same_broken r s [] e = refl
  same_broken r s (a ∷ l) e =
      ap (λ b. if b then first_broken (later r a) l else Some a) (e [] a l)
      ∙ ap (λ o. if s [] a l then o else Some a) (same_broken (later r a) (later s a) l (λ before. e (a ∷ before)))

  -- behind an item that obeys the rule
  pub broken_behind : (r : Rule A) (front : List A) (a : A) (l : List A) → r front a l ≡ true → first_broken (rule_behind r front) (a ∷ l) ≡ first_broken (rule_behind r (front ++ a ∷ [])) l
  unfolding first_broken
  broken_behind r front a l e =
      ap (λ before. if r before a l then first_broken (later (rule_behind r front) a) l else Some a) (append-nil front)
      ∙ (ap (λ b. if b then first_broken (later (rule_behind r front) a) l else Some a) e
      ∙ same_broken (later (rule_behind r front) a) (rule_behind r (front ++ a ∷ [])) l (λ before b behind. ap (λ z. r z b behind) (sym (append_assoc front (a ∷ []) before))))

  -- at an item that breaks it
  pub broken_here : (r : Rule A) (front : List A) (a : A) (l : List A) → r front a l ≡ false → first_broken (rule_behind r front) (a ∷ l) ≡ Some a
  unfolding first_broken
  broken_here r front a l e =
      ap (λ before. if r before a l then first_broken (later (rule_behind r front) a) l else Some a) (append-nil front)
      ∙ ap (λ b. if b then first_broken (later (rule_behind r front) a) l else Some a) e

  -- at the end
  pub broken_nowhere : (r : Rule A) → first_broken r [] ≡ None
  unfolding first_broken
  broken_nowhere r = refl
