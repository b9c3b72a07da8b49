-- How the walk to a place goes on that looks for definitions of a variable.
use Rattle.std.specs.Prelude.{◌≡◌, ◌≤◌, ℕ, Bool, true, false, not, nat_lt, List, Option}
use Rattle.cv_pool.specs.KindTree.{KindTree}
use Rattle.cv_pool.specs.Nodes.{ChildBelow}
use Rattle.cv_pool.specs.declared.node.NodeId.{NodeId}
use Rattle.cv_syntax_trees.specs.declared.head.Head.{Head}
use Rattle.cv_syntax_trees.specs.declared.head.Head.TheVariants.{Branch}
use Rattle.cv_syntax_trees.specs.Tree.{Tree, size}
use Rattle.cv_syntax.specs.PoolTrees.{tree_at}
use Rattle.cv_scene.specs.Late.{guards, is_late}
use Rattle.cv_derive_reasons.specs.declared.late.Way.{Way}
use Rattle.cv_derive_reasons.specs.declared.late.Way.TheVariants as way

-- the test of the tree is ended, or is that of a tree which is no larger
abbrev pub Leads : List KindTree → ℕ → Tree → ℕ → Way → Type 0
Leads trees x t p (way.Ends found) = is_late x t p ≡ found
Leads trees x t p (way.Goes at rest) = (is_late x t p ≡ is_late x (tree_at trees at) rest) × (size (tree_at trees at) ≤ size t)

abbrev pub IsWayBelow : ℕ → Way → Type 0
IsWayBelow n (way.Ends found) = Unit {0}
IsWayBelow n (way.Goes at rest) = ChildBelow n at

-- the place stands in the body of a branch
abbrev pub is_behind_guards : Head → (second : Tree) → ℕ → Bool
is_behind_guards Branch b p = not (nat_lt p (guards b))
is_behind_guards h b p = true

abbrev pub way_if : Bool → Option NodeId → ℕ → Way
way_if true at rest = way.Goes at rest
way_if false at rest = way.Ends false
