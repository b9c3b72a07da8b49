-- What a sink took of a text.
use Rattle.std.specs.Prelude.{ℕ, ◌≡◌, List, ◌++◌, Option, IfSome, take}

-- A front of the text went to the end of what was taken, where that is told.
abbrev pub TakesFront : Option (List ℕ) → Option (List ℕ) → List ℕ → Type 0
TakesFront before now text = IfSome now (λ after. IfSome before (λ first. (n : ℕ) × (after ≡ first ++ take n text)))

-- All of it did.
abbrev pub TakesAll : Option (List ℕ) → Option (List ℕ) → List ℕ → Type 0
TakesAll before now text = IfSome now (λ after. IfSome before (λ first. after ≡ first ++ text))
