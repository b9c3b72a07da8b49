-- What stands at a place of a game, with terms for names.
use Rattle.std.specs.Prelude.{ℕ, List, map}
use Rattle.cv_syntax_trees.specs.Tree.{Tree}
use Rattle.cv_scope_rules.specs.Above.{stands_at}
use Rattle.cv_scene.specs.Sights.{cells_by, facts_by}
use Rattle.cv_derive_reasons.specs.substitution.Under.{under}

abbrev pub facts_under : (game : Tree) → (place : ℕ) → List (ℕ × ℕ) → (terms : Tree) → List Tree
facts_under game p names terms = map (under names terms) (facts_by (stands_at game p))

abbrev pub cells_under : (game : Tree) → (place : ℕ) → List (ℕ × ℕ) → (terms : Tree) → List Tree
cells_under game p names terms = map (under names terms) (cells_by (stands_at game p))
