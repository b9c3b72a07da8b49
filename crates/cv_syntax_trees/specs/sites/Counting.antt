-- The length of a list in a tree.
use Rattle.std.specs.Prelude.{ℕ, ◌+◌}
use Rattle.cv_syntax_trees.specs.Tree.{Tree, Empty, Node}

-- how many items a list has
unfoldable pub count : Tree → ℕ
count Empty = 0
count (Node h a b) = count b + 1
