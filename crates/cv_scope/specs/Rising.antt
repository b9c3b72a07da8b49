-- Ranges of places, one behind the other.
use Rattle.std.specs.Prelude.{◌≤◌, ℕ, List, [], ◌∷◌}
use Rattle.std.specs.List.{AllByRecursion}

-- ranges one behind the other
abbrev pub Rise : List (ℕ × ℕ) → Type 0
Rise [] = Unit {0}
Rise (r ∷ rs) = AllByRecursion (λ (q : ℕ × ℕ). r.1 ≤ q.0) rs × (r.0 ≤ r.1) × Rise rs
