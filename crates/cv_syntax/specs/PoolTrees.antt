-- The trees of the calculus that the nodes of a pool stand for, and the kinds that it keeps of their heads.
use Rattle.std.specs.Prelude.{◌≡◌, List, Option}
use Rattle.cv_pool.specs.declared.node.Kind.{Kind}
use Rattle.cv_pool.specs.declared.node.NodeId.{NodeId}
use Rattle.cv_pool.specs.KindTree.{KindTree, NoTree, Fork}
use Rattle.cv_pool.specs.Nodes.{child}
use Rattle.cv_syntax_trees.specs.declared.head.Head.{Head}
use Rattle.cv_syntax_trees.specs.Head.{code, decoded, decoded_code}
use Rattle.cv_syntax_trees.specs.Tree.{Tree, Empty, Node}

-- the kind of a head
abbrev pub kind_of_head : Head → Kind
kind_of_head h = record { tag = (code h).tag; a = (code h).a; b = (code h).b }

-- the head of a kind
abbrev pub head_of_kind : Kind → Head
head_of_kind k = decoded (record { tag = k.tag; a = k.a; b = k.b })

pub head_of_kind_kind_of_head : (h : Head) → head_of_kind (kind_of_head h) ≡ h
head_of_kind_kind_of_head h = decoded_code h

-- the tree that a pool's node stands for
unfoldable pub tree_of : KindTree → Tree
tree_of NoTree = Empty
tree_of (Fork k a b) = Node (head_of_kind k) (tree_of a) (tree_of b)

-- the tree of a node, or of none
abbrev pub tree_at : List KindTree → Option NodeId → Tree
tree_at trees n = tree_of (child trees n)
