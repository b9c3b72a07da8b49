-- What is left of a construct without a body, as the code finds it.
use Rattle.std.specs.Prelude.{◌≡◌, ℕ, suc, ◌+◌, ◌≤◌, max, Bool, true, false, List, Option, Some, None, option_map, option_and_then}
use Rattle.cv_pool.specs.KindTree.{KindTree}
use Rattle.cv_syntax_trees.specs.declared.head.Head.{Head}
use Rattle.cv_syntax_trees.specs.declared.head.Head.TheVariants.{If, Find, Branch, Cons}
use Rattle.cv_pool.specs.Nodes.{ChildBelow}
use Rattle.cv_syntax_trees.specs.Head.{weight}
use Rattle.cv_syntax_trees.specs.Tree.{Tree, Empty, Node, size, depth}
use Rattle.cv_syntax.specs.PoolTrees.{tree_at}
use Rattle.cv_path.specs.Copies.{guards}
use Rattle.cv_scene.specs.Pruning.{Part, pruned, without_branch}
use Rattle.cv_edit_changes.specs.declared.pruning.cut.Cut.{Cut}
use Rattle.cv_edit_changes.specs.declared.pruning.left.Left.{Left}
use Rattle.cv_edit_changes.specs.declared.pruning.left.Left.TheVariants as left
use Rattle.cv_edit_changes.specs.pruning.Bodies.{nodes_of}

-- the first item of a list, and those behind it
abbrev pub cell_of : Tree → Option (Tree × Tree)
cell_of (Node Cons t more) = Some (t, more)
cell_of t = None

-- the two bodies of an `if`
abbrev pub bodies_of : Tree → Option (Tree × Tree)
bodies_of (Node If c list) = option_and_then (λ t. option_map (λ e. (t.0, e.0)) (cell_of t.1)) (cell_of list)
bodies_of t = None

abbrev pub is_find : Head → Bool
is_find (Find l) = true
is_find h = false

-- how many syntax nodes of a branch stand before its body
abbrev pub before_body : Tree → Option ℕ
before_body (Node Branch us rest) = Some (1 + size us + guards rest)
before_body t = None

-- how many items a list has
abbrev pub items : Tree → ℕ
items Empty = 0
items (Node h a b) = suc (items b)

-- what is left, wherever the construct stands
abbrev pub left_of : Tree → Part → Option Tree
left_of t part = option_map (λ b. b.left) (pruned 0 t part)

-- The construct is a `find`, and without its k-th branch it has these left.
pub record IsRest (trees : List KindTree) (h : Head) (branches e : Tree) (part : Part) (k : ℕ) (cut : Cut) : Type 0 where
  pub whole : left_of (Node h branches e) part ≡ Some (Node h (without_branch branches k) e)
  pub made : nodes_of (Node h branches e) part ≡ k
  pub nodes : size (without_branch branches k) ≡ cut.nodes + size (tree_at trees cut.behind)
  pub depth : depth (without_branch branches k) ≡ max cut.depth (depth (tree_at trees cut.behind))
  pub few : cut.nodes + size (tree_at trees cut.behind) ≤ size branches
  pub flat : cut.depth ≤ cut.nodes
  pub number : 1 ≤ k
  pub enough : k ≤ items branches

abbrev pub IsLeft : List KindTree → Head → (first second : Tree) → Part → Left → Type 0
IsLeft trees h a b part (left.Body n) = (left_of (Node h a b) part ≡ Some (tree_at trees n)) × (nodes_of (Node h a b) part ≡ 0) × (size (tree_at trees n) ≤ weight h + size a + size b)
IsLeft trees h a b part (left.Rest k cut) = IsRest trees h a b part k cut

-- its nodes are live
abbrev pub IsLive : ℕ → Left → Type 0
IsLive n (left.Body m) = ChildBelow n m
IsLive n (left.Rest k cut) = ChildBelow n cut.behind
