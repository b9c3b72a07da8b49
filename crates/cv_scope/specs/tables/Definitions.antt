-- Variables that are defined above a node, each with the number of replications above its definition.
use Rattle.std.specs.Prelude.{ℕ, Bool, if◌then◌else◌, List, [], ◌∷◌, ◌++◌}
use Rattle.std.specs.List.{list_any}
use Rattle.cv_syntax_trees.specs.sites.Pairs.{same_pair}

abbrev pub is_defined : List (ℕ × ℕ) → ℕ × ℕ → Bool
is_defined ds d = list_any (same_pair d) ds

-- one more, unless it is there
abbrev pub with_definition : List (ℕ × ℕ) → ℕ × ℕ → List (ℕ × ℕ)
with_definition ds d = if is_defined ds d then ds else ds ++ d ∷ []
