-- A tree with terms for the indices of replications.
use Rattle.std.specs.Prelude.{ℕ, List, map}
use Rattle.cv_syntax_trees.specs.Tree.{Tree}
use Rattle.cv_scene.specs.lines.Given.{with_given}

abbrev pub names_of : List (ℕ × ℕ) → List ℕ
names_of rs = map (λ (r : ℕ × ℕ). r.0) rs

abbrev pub under : List (ℕ × ℕ) → (terms t : Tree) → Tree
under rs terms t = with_given (names_of rs) terms t
