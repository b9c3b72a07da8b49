-- The first of two options, if there is one.
use Rattle.std.specs.Prelude.{Option, Some, None}

abbrev pub first_of : {A : Type 0} → Option A → Option A → Option A
first_of (Some a) b = Some a
first_of None b = b
