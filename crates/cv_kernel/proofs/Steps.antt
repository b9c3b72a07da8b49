-- A tree of a step's items has no more nodes than the step.
use Rattle.std.proofs.Common.{Option, Some, None, arith}
use Rattle.std.specs.Prelude.{IfSome}
use Rattle.cv_syntax_trees.specs.declared.head.Head.{Head}
use Rattle.cv_syntax_trees.specs.declared.head.Head.TheVariants as head
use Rattle.cv_syntax_trees.specs.Tree.{Tree, Empty, Node, first, second}
use Rattle.cv_script.specs.Views.{StepItems, items_of_step, name_in, number_in, part_in, adds_in, tree_in, ◌>>=◌}
use Rattle.cv_kernel.specs.Steps.{AreShort, IsShort}
use Rattle.cv_kernel.proofs.Nodes.{first_nodes, nodes_node, second_nodes}

abbrev Short : Option StepItems → Type 0
Short o = IfSome o AreShort

bind : {A : Type 0} (o : Option A) (f : A → Option StepItems) → ((x : A) → Short (f x)) → Short (o >>= f)
bind None f k = tt
bind (Some x) f k = k x

-- a tree that is there, by its items
part_bind : (u : Tree) (f : Tree → Option StepItems) → IsShort u → ((m : Tree) → IsShort m → Short (f m)) → Short (tree_in u >>= f)
part_bind Empty f l k = tt
part_bind (Node h a b) f l k = k (Node h a b) l

module _ (h : Head) (a b : Tree) (l : IsShort (Node h a b)) where
  below : IsShort b
  below = omega (arith, l, nodes_node h a b)

  below_first : IsShort (first b)
  below_first = omega (arith, l, nodes_node h a b, first_nodes b)

  below_second : IsShort (second b)
  below_second = omega (arith, l, nodes_node h a b, second_nodes b)

  deep_first : IsShort (first (second b))
  deep_first = omega (arith, l, nodes_node h a b, second_nodes b, first_nodes (second b))

  deepest_first : IsShort (first (second (second b)))
  deepest_first = omega (arith, l, nodes_node h a b, second_nodes b, second_nodes (second b), first_nodes (second (second b)))

  deep : IsShort (second (second b))
  deep = omega (arith, l, nodes_node h a b, second_nodes b, second_nodes (second b))

pub short_items : (t : Tree) → IsShort t → IfSome (items_of_step t) AreShort
short_items Empty l = tt
short_items (Node head.RenameStep a b) l = bind (name_in a) _ (λ x. bind (name_in b) _ (λ to. tt))
short_items (Node head.RewriteStep a b) l = bind (number_in a) _ (λ p. part_bind (first b) _ (below_first head.RewriteStep a b l) (λ m k. (k, below_second head.RewriteStep a b l)))
short_items (Node head.PruneStep a b) l = bind (number_in a) _ (λ p. bind (part_in (first b)) _ (λ m. below_second head.PruneStep a b l))
short_items (Node head.PickStep a b) l = bind (number_in a) _ (λ p. (below_first head.PickStep a b l, deep_first head.PickStep a b l, deep head.PickStep a b l))
short_items (Node head.MergeStep a b) l = bind (number_in a) _ (λ p. tt)
short_items (Node head.SplitStep a b) l = bind (number_in a) _ (λ p. part_bind b _ (below head.SplitStep a b l) (λ m k. k))
short_items (Node head.LetStep a b) l =
    bind (number_in a) _ (λ p. bind (name_in (first b)) _ (λ x. bind (name_in (first (second b))) _ (λ T. part_bind (second (second b)) _ (deep head.LetStep a b l) (λ m k. k))))
short_items (Node head.UnletStep a b) l = bind (name_in a) _ (λ x. tt)
short_items (Node head.NewStep a b) l = bind (number_in a) _ (λ p. bind (name_in (first b)) _ (λ x. bind (name_in (second b)) _ (λ T. tt)))
short_items (Node head.UnnewStep a b) l = bind (name_in a) _ (λ x. tt)
short_items (Node head.MoveStep a b) l = bind (number_in a) _ (λ p. tt)
short_items (Node head.ArrayRenameStep a b) l = bind (name_in a) _ (λ x. below head.ArrayRenameStep a b l)
short_items (Node head.CodefStep a b) l =
    bind (number_in a) _ (λ p. bind (adds_in (first b)) _ (λ add. part_bind (first (second b)) _ (deep_first head.CodefStep a b l) (λ y k. part_bind (first (second (second b))) _ (deepest_first head.CodefStep a b l) (λ x j. (k, j)))))
short_items (Node head.BirthdayStep a b) l = bind (name_in a) _ (λ x. below head.BirthdayStep a b l)
short_items (Node head.GuessStep a b) l = bind (name_in a) _ (λ x. below head.GuessStep a b l)
short_items (Node head.FreshStep a b) l = bind (number_in a) _ (λ p. tt)
short_items (Node head.CryptoStep a b) l = bind (name_in a) _ (λ e. bind (name_in b) _ (λ x. tt))
short_items (Node head.SuccessStep a b) l = bind (number_in a) _ (λ k. below head.SuccessStep a b l)
short_items (Node head.SimplifyStep a b) l = tt
short_items (Node h a b) l = tt
