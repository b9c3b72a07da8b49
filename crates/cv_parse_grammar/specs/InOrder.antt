-- Rules over the items of a list, where what is asked of an item may depend on the items before and behind it.
use Rattle.std.specs.Prelude.{◌≡◌, Bool, true, false, if◌then◌else◌, List, [], ◌∷◌, ◌++◌, Option, Some, None}

abbrev pub Rule : Type 0 → Type 0
Rule A = (before : List A) → A → (behind : List A) → Bool

-- every item obeys the rule
abbrev pub AllObey : {A : Type 0} → Rule A → List A → Type 0
AllObey {A} r l = (before : List A) (a : A) (behind : List A) → l ≡ before ++ a ∷ behind → r before a behind ≡ true

-- the first item that breaks the rule
pub record BreaksFirst {A : Type 0} (r : Rule A) (l : List A) (a : A) : Type 0 where
  pub before : List A
  pub behind : List A
  pub split : l ≡ before ++ a ∷ behind
  pub earlier : (front : List A) (b : A) (back : List A) → before ≡ front ++ b ∷ back → r front b (back ++ a ∷ behind) ≡ true
  pub breaks : r before a behind ≡ false

-- the rule for the items behind a first one
abbrev pub later : {A : Type 0} → Rule A → A → Rule A
later r a before = r (a ∷ before)

-- the first item that breaks the rule, computed from left to right
unfoldable pub first_broken : {A : Type 0} → Rule A → List A → Option A
first_broken r [] = None
first_broken r (a ∷ l) = if r [] a l then first_broken (later r a) l else Some a
