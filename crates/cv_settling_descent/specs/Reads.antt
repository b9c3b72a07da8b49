-- Where each read of a variable is one cell: at the indices of the variable's definition. This profile's own.
use Rattle.std.specs.Prelude.{◌≡◌, ℕ, true}
use Rattle.cv_syntax_trees.specs.Tree.{Tree, Empty, Node}
use Rattle.cv_scene.specs.Scenes.{head_reads}

-- each node of the tree that reads the variable is the cell
unfoldable pub AreReadsOf : (x : ℕ) → (cell : Tree) → Tree → Type 0
AreReadsOf x c Empty = Unit {0}
AreReadsOf x c (Node h a b) = (head_reads x h ≡ true → Node h a b ≡ c) × AreReadsOf x c a × AreReadsOf x c b
