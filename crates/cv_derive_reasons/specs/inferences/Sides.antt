-- The two children of a term with a head.
use Rattle.std.specs.Prelude.{ℕ, if◌then◌else◌, List, Option, Some, None}
use Rattle.cv_pool.specs.declared.node.NodeId.{NodeId}
use Rattle.cv_pool.specs.KindTree.{KindTree}
use Rattle.cv_pool.specs.Nodes.{ChildBelow}
use Rattle.cv_syntax_trees.specs.declared.head.Head.{Head}
use Rattle.cv_syntax_trees.specs.Head.{same_head}
use Rattle.cv_syntax_trees.specs.Tree.{Tree, Empty, Node}
use Rattle.cv_syntax.specs.PoolTrees.{tree_at}

abbrev pub sides_of : Head → Tree → Option (Tree × Tree)
sides_of h Empty = None
sides_of h (Node k a b) = if same_head k h then Some (a, b) else None

abbrev pub both_at : List KindTree → Option NodeId × Option NodeId → Tree × Tree
both_at trees p = (tree_at trees p.0, tree_at trees p.1)

abbrev pub AreLive : ℕ → Option NodeId × Option NodeId → Type 0
AreLive n p = ChildBelow n p.0 × ChildBelow n p.1
