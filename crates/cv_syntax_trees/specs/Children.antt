-- What is asked of a child of a node.
use Rattle.std.specs.Prelude.{ℕ, Bool, true, false, ◌&&◌, ◌==◌}
use Rattle.cv_syntax_trees.specs.declared.head.Head.TheVariants.{Leaf}
use Rattle.cv_syntax_trees.specs.Tree.{Tree, Empty, Node}

abbrev pub is_empty : Tree → Bool
is_empty Empty = true
is_empty (Node h a b) = false

-- the term is this name, without indices
abbrev pub is_leaf : ℕ → Tree → Bool
is_leaf x (Node (Leaf y) a b) = (x == y) && (is_empty a && is_empty b)
is_leaf x t = false
