-- The functions of the right side, by their nodes. This profile's own.
use Rattle.std.specs.Prelude.{ℕ, ◌<◌, ◌^◌, ◌++◌, List, length, map, Some}
use Rattle.cv_pool.specs.declared.node.NodeId.{NodeId}
use Rattle.cv_pool.specs.KindTree.{KindTree}
use Rattle.cv_syntax_trees.specs.Tree.{Tree, Empty, Node, second, size}
use Rattle.cv_syntax.specs.PoolTrees.{tree_at}
use Rattle.cv_meaning.specs.contexts.Groups.{Function, Right, function_of, side_tree}
use Rattle.cv_inline.specs.NextGame.{names_assigned}

abbrev pub function_in : List KindTree → NodeId → Function
function_in trees f = function_of (tree_at trees (Some f))

-- each item of a list is a node
abbrev pub AreNodes : Tree → Type 0
AreNodes Empty = Unit {0}
AreNodes (Node h Empty more) = ⊥
AreNodes (Node h (Node k a b) more) = AreNodes more

-- so are the functions on the right of an equivalence
abbrev pub HasRightFunctions : Tree → Type 0
HasRightFunctions equivalence = AreNodes (second (side_tree Right equivalence))

-- a function's node is in the pool, and the numbers of its nodes fit
pub record IsLiveFunction (trees : List KindTree) (f : NodeId) : Type 0 where
  pub live : f.0 < length trees
  pub fits : size (tree_at trees (Some f)) < 2 ^ 32

-- the names that a function assigns, in the order of the text
abbrev pub names_of : Function → List ℕ
names_of f = map (λ (x : ℕ × ℕ). x.0) f.arguments ++ names_assigned f.body
