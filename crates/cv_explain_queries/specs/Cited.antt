-- The facts at a place that derivations may cite, in the order of their numbers.
use Rattle.std.specs.Prelude.{ℕ, List, [], unwrap_or}
use Rattle.cv_syntax_trees.specs.Tree.{Tree}
use Rattle.cv_derive_facts.specs.Facts.{FactAt, facts_at}

-- none where the game has no such place
abbrev pub cited : Tree → ℕ → List FactAt
cited game p = unwrap_or (facts_at game p) []
