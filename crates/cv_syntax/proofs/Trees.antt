-- Trees of a pool, opened: what they are where there is no node, at a node, and from node to node.
use Rattle.std.proofs.Common.{◌≡◌, ℕ, ◌+◌, ◌<◌, ◌≤◌, max, Bool, true, false, ◌&&◌, ◌||◌, List, [], ◌∷◌, ◌++◌, refl, ap, sym, ◌∙◌, arith, Option, Some, None}
use Rattle.std.specs.Prelude.{◌==◌, if◌then◌else◌}
use Rattle.cv_pool.specs.declared.node.NodeId.{NodeId}
use Rattle.cv_pool.specs.KindTree.{KindTree, NoTree}
use Rattle.cv_pool.specs.Nodes.{ChildBelow}
use Rattle.cv_syntax.specs.declared.open.Opened.{Opened}
use Rattle.cv_syntax_trees.specs.Head.{weight, same_head}
use Rattle.cv_syntax_trees.specs.Tree.{Tree, Empty, Node, first, second, size, depth, tops, same_tree, head_reads_only, reads_only, head_binds, binds}
use Rattle.cv_syntax.specs.PoolTrees.{tree_of, tree_at}
use Rattle.cv_syntax.specs.Walks.{above}
use Rattle.cv_syntax.proofs.Walking.{below_some, live_child}

-- where there is no node

pub tree_of_NoTree : tree_of NoTree ≡ Empty
unfolding tree_of
tree_of_NoTree = refl

pub tree_at_None : (trees : List KindTree) → tree_at trees None ≡ Empty
unfolding tree_of
tree_at_None trees = refl

pub empty_at : (trees : List KindTree) (at : Option NodeId) → at ≡ None → tree_at trees at ≡ Empty
empty_at trees at e = ap (tree_at trees) e ∙ tree_at_None trees

pub first_None : (trees : List KindTree) (o : Option NodeId) → o ≡ None → tree_at trees None ≡ first (tree_at trees o)
unfolding tree_of
first_None trees o e = sym (ap (λ q. first (tree_at trees q)) e)

pub second_None : (trees : List KindTree) (o : Option NodeId) → o ≡ None → tree_at trees None ≡ second (tree_at trees o)
unfolding tree_of
second_None trees o e = sym (ap (λ q. second (tree_at trees q)) e)

-- at a node, and at its children

pub node_at : (trees : List KindTree) (at : Option NodeId) (k : NodeId) (o : Opened) → at ≡ Some k → tree_at trees (Some k) ≡ Node o.head (tree_at trees o.first) (tree_at trees o.second) → tree_at trees at ≡ Node o.head (tree_at trees o.first) (tree_at trees o.second)
node_at trees at k o e f = ap (tree_at trees) e ∙ f

pub child_live : (m : ℕ) (at : Option NodeId) (k : NodeId) (child : Option NodeId) → at ≡ Some k → ChildBelow m at → ChildBelow k.0 child → ChildBelow m child
child_live m at k child e l b = let n : k.0 < m = below_some m at k e l in live_child m k.0 child (omega arith) b

pub child_above : (m : ℕ) (at : Option NodeId) (k : NodeId) (child : Option NodeId) → at ≡ Some k → above at ≤ m → ChildBelow k.0 child → above child ≤ m
child_above m at k None e l b = omega arith
child_above m at k (Some n) e l b = let f : above at ≡ k.0 + 1 = ap above e in omega arith

-- the definitions of a tree, by its parts

abbrev pub size_parts : Tree → ℕ
size_parts Empty = 0
size_parts (Node h a b) = weight h + size a + size b

pub size_open : (t : Tree) → size t ≡ size_parts t
unfolding size
size_open Empty = refl
size_open (Node h a b) = refl

abbrev pub depth_parts : Tree → ℕ
depth_parts Empty = 0
depth_parts (Node h a b) = weight h + max (depth a) (depth b)

pub depth_open : (t : Tree) → depth t ≡ depth_parts t
unfolding depth
depth_open Empty = refl
depth_open (Node h a b) = refl

abbrev pub tops_parts : Tree → List Tree
tops_parts Empty = []
tops_parts (Node h a b) = if weight h == 1 then Node h a b ∷ [] else tops a ++ tops b

pub tops_open : (t : Tree) → tops t ≡ tops_parts t
unfolding tops
tops_open Empty = refl
tops_open (Node h a b) = refl

abbrev pub same_parts : Tree → Tree → Bool
same_parts Empty Empty = true
same_parts (Node h a b) (Node k c d) = same_head h k && (same_tree a c && same_tree b d)
same_parts _ _ = false

pub same_open : (s t : Tree) → same_tree s t ≡ same_parts s t
unfolding same_tree
same_open Empty Empty = refl
same_open Empty (Node k c d) = refl
same_open (Node h a b) Empty = refl
same_open (Node h a b) (Node k c d) = refl

abbrev pub reads_parts : (ℕ → Bool) → Tree → Bool
reads_parts on Empty = true
reads_parts on (Node h a b) = head_reads_only on h && (reads_only on a && reads_only on b)

pub reads_open : (on : ℕ → Bool) (t : Tree) → reads_only on t ≡ reads_parts on t
unfolding reads_only
reads_open on Empty = refl
reads_open on (Node h a b) = refl

abbrev pub binds_parts : Tree → ℕ → Bool
binds_parts Empty y = false
binds_parts (Node h a b) y = head_binds h y || (binds a y || binds b y)

pub binds_open : (t : Tree) (y : ℕ) → binds t y ≡ binds_parts t y
unfolding binds
binds_open Empty y = refl
binds_open (Node h a b) y = refl

pub size_Empty : (t : Tree) → t ≡ Empty → size t ≡ 0
size_Empty t e = ap size e ∙ size_open Empty

-- what a walk cites at the end of a chain
pub ruleset opened = (tree_of_NoTree)

-- the definitions of a tree by its parts
pub ruleset openings_of_trees = (tree_of_NoTree, size_open, depth_open, same_open, reads_open, binds_open)
