-- A step by its items.
use Rattle.std.specs.Prelude.{ℕ, ◌<◌, Bool, true, false, not, List, Option, Some, None}
use Rattle.cv_pool.specs.KindTree.{KindTree}
use Rattle.cv_pool.specs.Nodes.{ChildBelow}
use Rattle.cv_syntax_trees.specs.declared.head.Head.TheVariants as head
use Rattle.cv_syntax_trees.specs.Children.{is_empty}
use Rattle.cv_syntax_trees.specs.Tree.{Tree, Empty, Node, first, second}
use Rattle.cv_syntax.specs.PoolTrees.{tree_at}
use Rattle.cv_script.specs.declared.views.Part.{Part}
use Rattle.cv_script.specs.declared.views.Part.TheVariants as part
use Rattle.cv_script.specs.declared.views.StepView.{StepView}
use Rattle.cv_script.specs.declared.views.StepView.TheVariants as view

-- the items of a step, in the order of its text
pub data StepItems : Type 0 where
  Rename : (x to : ℕ) → StepItems
  Rewrite : (place : ℕ) → (term by : Tree) → StepItems
  Prune : (place : ℕ) → Part → (by : Tree) → StepItems
  Pick : (place : ℕ) → (terms at_body at_find : Tree) → StepItems
  Merge : (place : ℕ) → StepItems
  Split : (place : ℕ) → (cond : Tree) → StepItems
  Let : (place x ty : ℕ) → (term : Tree) → StepItems
  Unlet : (x : ℕ) → StepItems
  New : (place x ty : ℕ) → StepItems
  Unnew : (x : ℕ) → StepItems
  Move : (place : ℕ) → StepItems
  ArrayRename : (x : ℕ) → (to : Tree) → StepItems
  Codef : (place : ℕ) → (add : Bool) → (to from : Tree) → (above : Bool) → StepItems
  Birthday : (x : ℕ) → (at : Tree) → StepItems
  Guess : (x : ℕ) → (at : Tree) → StepItems
  Fresh : (place : ℕ) → StepItems
  Crypto : (equiv x : ℕ) → StepItems
  Success : (query : ℕ) → (by : Tree) → StepItems
  Simplify : StepItems

-- a tree that is a name, a number, a tree with a node, a part of a `prune` and one of a `codef`

abbrev pub name_in : Tree → Option ℕ
name_in (Node (head.Name x) a b) = Some x
name_in t = None

abbrev pub number_in : Tree → Option ℕ
number_in (Node (head.Number v) a b) = Some v
number_in t = None

abbrev pub tree_in : Tree → Option Tree
tree_in Empty = None
tree_in (Node h a b) = Some (Node h a b)

abbrev pub part_in : Tree → Option Part
part_in (Node head.ThenPart a b) = Some part.Then
part_in (Node head.ElsePart a b) = Some part.Else
part_in (Node (head.Number v) a b) = Some (part.Branch v)
part_in t = None

abbrev pub adds_in : Tree → Option Bool
adds_in (Node head.AddPart a b) = Some true
adds_in (Node head.DropPart a b) = Some false
adds_in t = None

infixl 10 ◌>>=◌
abbrev pub ◌>>=◌ : {A B : Type 0} → Option A → (A → Option B) → Option B
(Some a) >>= f = f a
None >>= f = None

-- the items of a step's tree; another tree has none
abbrev pub items_of_step : Tree → Option StepItems
items_of_step (Node head.RenameStep a b) = name_in a >>= λ x. name_in b >>= λ to. Some (Rename x to)
items_of_step (Node head.RewriteStep a b) = number_in a >>= λ p. tree_in (first b) >>= λ m. Some (Rewrite p m (second b))
items_of_step (Node head.PruneStep a b) = number_in a >>= λ p. part_in (first b) >>= λ part. Some (Prune p part (second b))
items_of_step (Node head.PickStep a b) = number_in a >>= λ p. Some (Pick p (first b) (first (second b)) (second (second b)))
items_of_step (Node head.MergeStep a b) = number_in a >>= λ p. Some (Merge p)
items_of_step (Node head.SplitStep a b) = number_in a >>= λ p. tree_in b >>= λ m. Some (Split p m)
items_of_step (Node head.LetStep a b) = number_in a >>= λ p. name_in (first b) >>= λ x. name_in (first (second b)) >>= λ T. tree_in (second (second b)) >>= λ m. Some (Let p x T m)
items_of_step (Node head.UnletStep a b) = name_in a >>= λ x. Some (Unlet x)
items_of_step (Node head.NewStep a b) = number_in a >>= λ p. name_in (first b) >>= λ x. name_in (second b) >>= λ T. Some (New p x T)
items_of_step (Node head.UnnewStep a b) = name_in a >>= λ x. Some (Unnew x)
items_of_step (Node head.MoveStep a b) = number_in a >>= λ p. Some (Move p)
items_of_step (Node head.ArrayRenameStep a b) = name_in a >>= λ x. Some (ArrayRename x b)
items_of_step (Node head.CodefStep a b) = number_in a >>= λ p. adds_in (first b) >>= λ add. tree_in (first (second b)) >>= λ y. tree_in (first (second (second b))) >>= λ x. Some (Codef p add y x (not (is_empty (second (second (second b))))))
items_of_step (Node head.BirthdayStep a b) = name_in a >>= λ x. Some (Birthday x b)
items_of_step (Node head.GuessStep a b) = name_in a >>= λ x. Some (Guess x b)
items_of_step (Node head.FreshStep a b) = number_in a >>= λ p. Some (Fresh p)
items_of_step (Node head.CryptoStep a b) = name_in a >>= λ e. name_in b >>= λ x. Some (Crypto e x)
items_of_step (Node head.SuccessStep a b) = number_in a >>= λ k. Some (Success k b)
items_of_step (Node head.SimplifyStep a b) = Some Simplify
items_of_step t = None

-- the items that a view tells
abbrev pub items_of_view : List KindTree → StepView → StepItems
items_of_view trees (view.Rename x to) = Rename x.0 to.0
items_of_view trees (view.Rewrite p m by) = Rewrite p (tree_at trees (Some m)) (tree_at trees by)
items_of_view trees (view.Prune p part by) = Prune p part (tree_at trees by)
items_of_view trees (view.Pick p ms d e) = Pick p (tree_at trees ms) (tree_at trees d) (tree_at trees e)
items_of_view trees (view.Merge p) = Merge p
items_of_view trees (view.Split p m) = Split p (tree_at trees (Some m))
items_of_view trees (view.Let p x T m) = Let p x.0 T.0 (tree_at trees (Some m))
items_of_view trees (view.Unlet x) = Unlet x.0
items_of_view trees (view.New p x T) = New p x.0 T.0
items_of_view trees (view.Unnew x) = Unnew x.0
items_of_view trees (view.Move p) = Move p
items_of_view trees (view.ArrayRename x xs) = ArrayRename x.0 (tree_at trees xs)
items_of_view trees (view.Codef p add y x above) = Codef p add (tree_at trees (Some y)) (tree_at trees (Some x)) above
items_of_view trees (view.Birthday x ps) = Birthday x.0 (tree_at trees ps)
items_of_view trees (view.Guess x ps) = Guess x.0 (tree_at trees ps)
items_of_view trees (view.Fresh p) = Fresh p
items_of_view trees (view.Crypto e x) = Crypto e.0 x.0
items_of_view trees (view.Success k by) = Success k (tree_at trees by)
items_of_view trees view.Simplify = Simplify

-- the nodes that a view tells are live
abbrev pub AreLive : ℕ → StepView → Type 0
AreLive n (view.Rewrite p m by) = (m.0 < n) × ChildBelow n by
AreLive n (view.Prune p part by) = ChildBelow n by
AreLive n (view.Pick p ms d e) = ChildBelow n ms × ChildBelow n d × ChildBelow n e
AreLive n (view.Split p m) = m.0 < n
AreLive n (view.Let p x T m) = m.0 < n
AreLive n (view.ArrayRename x xs) = ChildBelow n xs
AreLive n (view.Codef p add y x above) = (y.0 < n) × (x.0 < n)
AreLive n (view.Birthday x ps) = ChildBelow n ps
AreLive n (view.Guess x ps) = ChildBelow n ps
AreLive n (view.Success k by) = ChildBelow n by
AreLive n v = Unit {0}
