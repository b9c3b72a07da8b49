-- What the code finds at a `find` of one branch. This profile's own.
use Rattle.std.specs.Prelude.{ℕ, ◌+◌, ◌<◌, ◌^◌, Bool, ◌&&◌, ◌||◌, ◌==◌, not, if◌then◌else◌, List, Option, Some, None, Result, Ok, Err, length}
use Rattle.std.specs.List.{list_any}
use Rattle.cv_pool.specs.KindTree.{KindTree}
use Rattle.cv_pool.specs.Nodes.{ChildBelow}
use Rattle.cv_pool.specs.declared.node.NodeId.{NodeId}
use Rattle.cv_syntax_trees.specs.declared.head.Head.{Head}
use Rattle.cv_syntax_trees.specs.declared.head.Head.TheVariants.{Branch, Cons}
use Rattle.cv_syntax_trees.specs.Tree.{Tree, Empty, Node, first_place, same_tree, second_place}
use Rattle.cv_syntax.specs.PoolTrees.{tree_at}
use Rattle.cv_syntax.specs.declared.open.Opened.{Opened}
use Rattle.cv_syntax_trees.specs.sites.Sites.{first_of}
use Rattle.cv_scope_rules.specs.Context.{cells_of}
use Rattle.cv_scene.specs.lines.Lines.{count, lines_of}
use Rattle.cv_costs.specs.names.Naming.{is_between, names_one}
use Rattle.cv_rule_pick.specs.Picking.{Arm}
use Rattle.cv_rule_pick.specs.declared.branches.OnlyBranch.{OnlyBranch}
use Rattle.cv_rule_pick.specs.declared.others.Own.{Own}

abbrev pub arm_of : List KindTree → OnlyBranch → Arm
arm_of trees b = record { binders = tree_at trees b.binders; cells = tree_at trees b.cells; condition = tree_at trees b.condition; body = tree_at trees b.body }

pub record IsLiveBranch (n : ℕ) (b : OnlyBranch) : Type 0 where
  pub binders : ChildBelow n b.binders
  pub cells : ChildBelow n b.cells
  pub condition : ChildBelow n b.condition
  pub body : ChildBelow n b.body

-- a place that a walk finds
abbrev pub found_by : Result ℕ ℕ → Option ℕ
found_by (Ok n) = None
found_by (Err p) = Some p

-- a node that is read, and the link of a branch's list
abbrev pub opened_at : List KindTree → Opened → Head × (Tree × Tree)
opened_at trees o = (o.head, (tree_at trees o.first, tree_at trees o.second))

abbrev pub link_in : Head → (second : Tree) → Option (Head × (Tree × Tree))
link_in Branch (Node h cells rest) = Some (h, (cells, rest))
link_in h t = None

-- the place of a branch, and those in it where one of these cells stands
abbrev pub is_passed_by : (cells : List Tree) → (arm behind place : ℕ) → Tree → Bool
is_passed_by cs q r p t = (p == q) || (is_between q r p && list_any (same_tree t) cs)

abbrev pub is_passed : List KindTree → Own → (place : ℕ) → Tree → Bool
is_passed trees own = is_passed_by (cells_of own.replications.now (tree_at trees own.binders)) own.arm own.behind

-- a derivation whose lines can be counted
abbrev pub IsShortDerivation : List KindTree → Option NodeId → Type 0
IsShortDerivation trees by = ChildBelow (length trees) by × (1 + count (lines_of (tree_at trees by)) < 2 ^ 32)

-- the branch with these binders, by what stands behind them
abbrev pub guarded_by : (binders rest : Tree) → Option Arm
guarded_by us (Node Cons cells (Node Cons c b)) = Some (record { binders = us; cells = cells; condition = c; body = b })
guarded_by us rest = None

-- the first place of a tree that stands at a place where one of these is named, but for trees that are passed over where they stand
unfoldable pub first_elsewhere : (xs : ℕ → Bool) → (skip : ℕ → Tree → Bool) → (place : ℕ) → Tree → Option ℕ
first_elsewhere xs skip p Empty = None
first_elsewhere xs skip p (Node h a b) =
    if names_one xs h a && not (skip p (Node h a b)) then Some p
    else first_of (first_elsewhere xs skip (first_place p h) a) (first_elsewhere xs skip (second_place p h a) b)
