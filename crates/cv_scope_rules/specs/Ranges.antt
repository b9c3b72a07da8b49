-- Ranges of places.
use Rattle.std.specs.Prelude.{◌≤◌, ℕ, List}
use Rattle.std.specs.List.{AllByRecursion}

-- ranges that end at or before a place
abbrev pub EndBy : ℕ → List (ℕ × ℕ) → Type 0
EndBy p ranges = AllByRecursion (λ (r : ℕ × ℕ). r.1 ≤ p) ranges
