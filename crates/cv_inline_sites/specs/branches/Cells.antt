-- Cells that the indices of a key read. This profile's own.
use Rattle.std.specs.Prelude.{ℕ, List}
use Rattle.cv_pool.specs.KindTree.{KindTree}
use Rattle.cv_pool.specs.Nodes.{ChildBelow}
use Rattle.cv_syntax_trees.specs.declared.head.Head.TheVariants.{Leaf, Read}
use Rattle.cv_syntax_trees.specs.Tree.{Tree, Empty, Node, lone}
use Rattle.cv_syntax.specs.PoolTrees.{tree_at}
use Rattle.cv_inline_sites.specs.declared.branches.needed.Cell.{Cell}
use Rattle.cv_inline_sites.specs.declared.branches.needed.Cell.TheVariants.{Bare, At}

abbrev pub cell_tree : List KindTree → Cell → Tree
cell_tree trees (Bare x) = lone (Leaf x)
cell_tree trees (At x ts) = Node (Read x) (tree_at trees ts) Empty

abbrev pub IsLiveCell : ℕ → Cell → Type 0
IsLiveCell live (Bare x) = Unit {0}
IsLiveCell live (At x ts) = ChildBelow live ts
