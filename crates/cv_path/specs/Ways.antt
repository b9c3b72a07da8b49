-- The way from the root of a tree down to a place, and the tree with another subtree at its end.
use Rattle.std.specs.Prelude.{Bool, true, false, List, [], ◌∷◌, Some}
use Rattle.cv_pool.specs.KindTree.{KindTree}
use Rattle.cv_syntax_trees.specs.Tree.{Tree, Empty, Node}
use Rattle.cv_syntax.specs.PoolTrees.{tree_at}
use Rattle.cv_path.specs.declared.replacing.Turn.{Turn}

-- a node with another second, or first, child
abbrev pub turned : Bool → Tree → Tree → Tree
turned second Empty new = Empty
turned true (Node h a b) new = Node h a new
turned false (Node h a b) new = Node h new b

-- the tree in which the nodes of the way stand above the new subtree
abbrev pub led : List KindTree → List Turn → Tree → Tree
led trees [] new = new
led trees (t ∷ ts) new = turned t.second (tree_at trees (Some t.node)) (led trees ts new)
