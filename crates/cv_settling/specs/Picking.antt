-- The item of a list at a number that is counted down. This profile's own.
use Rattle.std.specs.Prelude.{◌≡◌, ℕ, ◌+◌, List, length, slice_get, Option, Some, None}

-- the item at a number is answered; where there are fewer, none is, and their number is taken off
abbrev pub IsPicked : {A : Type 0} → List A → (old new : ℕ) → Option A → Type 0
IsPicked xs old new (Some x) = slice_get xs old ≡ Some x
IsPicked xs old new None = old ≡ new + length xs
