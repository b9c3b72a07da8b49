-- Stores that agree at some variables. This profile's own.
use Rattle.std.specs.Prelude.{◌≡◌, ℕ, Bool, true, List}
use Rattle.cv_meaning.specs.Memory.{Store}

abbrev pub AgreeOn : (ℕ → Bool) → Store → Store → Type 0
AgreeOn on m n = (x : ℕ) (u : List ℕ) → on x ≡ true → m x u ≡ n x u
