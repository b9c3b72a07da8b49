-- The name that a node reads.
use Rattle.std.specs.Prelude.{ℕ, ◌==◌, Bool, false}
use Rattle.cv_syntax_trees.specs.declared.head.Head.{Head}
use Rattle.cv_syntax_trees.specs.declared.head.Head.TheVariants.{Leaf, Read}

abbrev pub head_is : Head → ℕ → Bool
head_is (Leaf x) y = x == y
head_is (Read x) y = x == y
head_is h y = false
