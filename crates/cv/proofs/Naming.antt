-- What a cryptographic step names is what its items tell.
use Rattle.std.proofs.Common.{◌≡◌, ℕ, Option, Some, None, refl}
use Rattle.cv_script.specs.Views.{StepItems, adds_in, items_of_step, name_in, number_in, part_in, tree_in, ◌>>=◌}
use Rattle.cv_script.specs.Views as items
use Rattle.cv_syntax_trees.specs.declared.head.Head.TheVariants as head
use Rattle.cv_syntax_trees.specs.Tree.{Tree, Node, first, second}
use Rattle.cv.specs.Contexts.{reduced_by}

-- by the items of a step
abbrev pub named_in : Option StepItems → Option (ℕ × ℕ)
named_in (Some (items.Crypto e x)) = Some (e, x)
named_in o = None

-- items that are of another step, if there are any
none : {A : Type 0} (o : Option A) (f : A → Option StepItems) → ((a : A) → None ≡ named_in (f a)) → None ≡ named_in (o >>= f)
none None f k = refl
none (Some a) f k = k a

reduced : (a b : Tree) → reduced_by (Node head.CryptoStep a b) ≡ named_in (items_of_step (Node head.CryptoStep a b))
reduced (Node (head.Name e) p q) (Node (head.Name x) c d) = refl
reduced (Node (head.Name e) p q) b = refl
reduced a b = refl

pub same_names : (t : Tree) → reduced_by t ≡ named_in (items_of_step t)
same_names (Node head.CryptoStep a b) = reduced a b
same_names (Node head.RenameStep a b) = none (name_in a) _ (λ x. none (name_in b) _ (λ to. refl))
same_names (Node head.RewriteStep a b) = none (number_in a) _ (λ p. none (tree_in (first b)) _ (λ m. refl))
same_names (Node head.PruneStep a b) = none (number_in a) _ (λ p. none (part_in (first b)) _ (λ part. refl))
same_names (Node head.PickStep a b) = none (number_in a) _ (λ p. refl)
same_names (Node head.MergeStep a b) = none (number_in a) _ (λ p. refl)
same_names (Node head.SplitStep a b) = none (number_in a) _ (λ p. none (tree_in b) _ (λ m. refl))
same_names (Node head.LetStep a b) = none (number_in a) _ (λ p. none (name_in (first b)) _ (λ x. none (name_in (first (second b))) _ (λ T. none (tree_in (second (second b))) _ (λ m. refl))))
same_names (Node head.UnletStep a b) = none (name_in a) _ (λ x. refl)
same_names (Node head.NewStep a b) = none (number_in a) _ (λ p. none (name_in (first b)) _ (λ x. none (name_in (second b)) _ (λ T. refl)))
same_names (Node head.UnnewStep a b) = none (name_in a) _ (λ x. refl)
same_names (Node head.MoveStep a b) = none (number_in a) _ (λ p. refl)
same_names (Node head.ArrayRenameStep a b) = none (name_in a) _ (λ x. refl)
same_names (Node head.CodefStep a b) = none (number_in a) _ (λ p. none (adds_in (first b)) _ (λ add. none (tree_in (first (second b))) _ (λ y. none (tree_in (first (second (second b)))) _ (λ x. refl))))
same_names (Node head.BirthdayStep a b) = none (name_in a) _ (λ x. refl)
same_names (Node head.GuessStep a b) = none (name_in a) _ (λ x. refl)
same_names (Node head.FreshStep a b) = none (number_in a) _ (λ p. refl)
same_names (Node head.SuccessStep a b) = none (number_in a) _ (λ k. refl)
same_names t = refl
