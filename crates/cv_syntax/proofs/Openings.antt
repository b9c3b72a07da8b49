-- A node of a pool as a node of a tree.
use Rattle.std.proofs.Common.{◌≡◌, ◌≢◌, List, refl, ap, ◌∙◌, Option, Some, true, false, IsNone, ◌↔◌}
use Rattle.cv_pool.specs.declared.node.NodeId.{NodeId}
use Rattle.cv_syntax_trees.specs.declared.head.Head.{Head}
use Rattle.cv_pool.specs.KindTree.{KindTree, NoTree, Fork, kind_of, side}
use Rattle.cv_pool.specs.Nodes.{at, child}
use Rattle.cv_syntax_trees.specs.Tree.{Empty, Node}
use Rattle.cv_syntax.specs.PoolTrees.{tree_of, tree_at, head_of_kind}

opened_parts : (t : KindTree) (h : Head) (a b : KindTree) → t ≢ NoTree → h ≡ head_of_kind (kind_of t) → a ≡ side false t → b ≡ side true t → tree_of t ≡ Node h (tree_of a) (tree_of b)
unfolding tree_of
opened_parts NoTree h a b some e f g = absurd (some refl)
opened_parts (Fork k c d) h a b some e f g = cc

pub opened_tree : (trees : List KindTree) (n : NodeId) (h : Head) (a b : Option NodeId) → at trees n.0 ≢ NoTree → h ≡ head_of_kind (kind_of (at trees n.0)) → child trees a ≡ side false (at trees n.0) → child trees b ≡ side true (at trees n.0) → tree_at trees (Some n) ≡ Node h (tree_at trees a) (tree_at trees b)
opened_tree trees n h a b some e f g = opened_parts (at trees n.0) h (child trees a) (child trees b) some e f g

empty_only : (t : KindTree) → tree_of t ≡ Empty → t ≡ NoTree
unfolding tree_of
empty_only NoTree e = refl
empty_only (Fork k c d) e = absurd (cc)

empty_none : tree_of NoTree ≡ Empty
unfolding tree_of
empty_none = refl

pub opened_none : (trees : List KindTree) (o : Option NodeId) (t : KindTree) → child trees o ≡ t → IsNone o ↔ (t ≡ NoTree) → IsNone o ↔ (tree_at trees o ≡ Empty)
opened_none trees o t e d = (
  λ n. let f : child trees o ≡ NoTree = cc (d.0 n) in ap tree_of f ∙ empty_none,
  λ s. let f : child trees o ≡ NoTree = empty_only (child trees o) s in let g : t ≡ NoTree = cc in d.1 g,
)

pub ruleset openings = (opened_tree)
