-- The bodies of constructs, as the code lists them. This profile's own.
use Rattle.std.specs.Prelude.{ℕ, List, Option, Some, None, option_map}
use Rattle.cv_pool.specs.KindTree.{KindTree}
use Rattle.cv_pool.specs.Nodes.{ChildBelow}
use Rattle.cv_syntax_trees.specs.declared.head.Head.TheVariants.{Branch, Cons}
use Rattle.cv_syntax_trees.specs.Tree.{Tree, Empty, Node}
use Rattle.cv_syntax.specs.PoolTrees.{tree_at}
use Rattle.cv_rule_move.specs.declared.bodies.Arm.{Arm}
use Rattle.cv_rule_move.specs.declared.bodies.Items.{Items}
use Rattle.cv_rule_move.specs.Parts.{arm_in}

-- the first two items of a list, and what stands behind them

pub record ItemTrees : Type 0 where
  pub first : Tree
  pub second : Tree
  pub rest : Tree

abbrev pub items_in : Tree → Option ItemTrees
items_in (Node Cons x (Node Cons y z)) = Some (record { first = x; second = y; rest = z })
items_in t = None

-- the first branch of a list, and those behind it

pub record ArmTrees : Type 0 where
  pub indices : Tree
  pub behind : ItemTrees
  pub more : Tree

abbrev pub arm_by : Tree → Option (Tree × Tree) → Option ArmTrees
arm_by more None = None
arm_by more (Some b) = option_map (λ i. record { indices = b.0; behind = i; more = more }) (items_in b.1)

abbrev pub arm_of : Tree → Option ArmTrees
arm_of Empty = None
arm_of (Node h a b) = arm_by b (arm_in h a)

-- the trees of nodes

abbrev pub items_at : List KindTree → Items → ItemTrees
items_at trees i = record { first = tree_at trees i.first; second = tree_at trees i.second; rest = tree_at trees i.rest }

abbrev pub arm_at : List KindTree → Arm → ArmTrees
arm_at trees a = record { indices = tree_at trees a.indices; behind = items_at trees a.behind; more = tree_at trees a.more }

-- they are live

pub record AreLiveItems (n : ℕ) (i : Items) : Type 0 where
  pub first : ChildBelow n i.first
  pub second : ChildBelow n i.second
  pub rest : ChildBelow n i.rest

pub record IsLiveArm (n : ℕ) (a : Arm) : Type 0 where
  pub indices : ChildBelow n a.indices
  pub behind : AreLiveItems n a.behind
  pub more : ChildBelow n a.more

-- a branch with a definition before its body

abbrev pub arm_with : (before : Tree → Tree) → ArmTrees → Tree
arm_with before a = Node Branch a.indices (Node Cons a.behind.first (Node Cons a.behind.second (before a.behind.rest)))
