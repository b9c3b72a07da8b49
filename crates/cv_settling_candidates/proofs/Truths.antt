-- What the equations of truth values make of a term stands in one with it.
use Rattle.std.proofs.Common.{◌≡◌, ℕ, Bool, true, ◌||◌}
use Rattle.std.specs.List.{AllByRecursion}
use Rattle.std.proofs.lemmas.Bool.{and_from, or_left, or_right}
use Rattle.cv_syntax_trees.specs.declared.head.Head.TheVariants.{And, Eq, Not, Or}
use Rattle.cv_syntax_trees.specs.Tree.{Tree, Node, same_tree}
use Rattle.cv_syntax_trees.proofs.Equality.{same_tree_self}
use Rattle.cv_syntax_trees.proofs.lists.Each.{AllByRecursion_append, AllByRecursion_weaker}
use Rattle.cv_scene.specs.Scenes.{Scene, part_at}
use Rattle.cv_scene.specs.lines.Truths.{are_sides, is_double, is_truth_of_sides, no, yes}
use Rattle.cv_settling_rules.specs.Candidates.{when}
use Rattle.cv_settling_rules.specs.Equations.{by_truths, is_of_type, of_double, of_sides}
use Rattle.cv_settling_candidates.proofs.Lists.{when_all}
use Rattle.cv_settling_laws.specs.Rewritings.{IsTruth}

-- a first, a second, a third and a fourth one

in_first : (a b : Bool) → a ≡ true → (a || b) ≡ true
in_first a b e = or_left a b e

in_second : (a b c : Bool) → b ≡ true → (a || (b || c)) ≡ true
in_second a b c e = or_right a _ (or_left b c e)

in_third : (a b c d : Bool) → c ≡ true → (a || (b || (c || d))) ≡ true
in_third a b c d e = or_right a _ (or_right b _ (or_left c d e))

in_fourth : (a b c d : Bool) → d ≡ true → (a || (b || (c || d))) ≡ true
in_fourth a b c d e = or_right a _ (or_right b _ (or_right c d e))

side : (l left r : Tree) → same_tree l left ≡ true → are_sides l r left r ≡ true
side l left r e = and_from (same_tree l left) _ e (same_tree_self r)

sides_true : (t : Tree) → AllByRecursion (λ r. is_truth_of_sides t r ≡ true) (of_sides t)
sides_true (Node Eq m n) =
    let P : Tree → Type 0 = λ r. is_truth_of_sides (Node Eq m n) r ≡ true in
    AllByRecursion_append P (when (same_tree n yes) m) _ (when_all P (same_tree n yes) m (λ e. in_first (are_sides n m yes m) _ (side n yes m e)))
    (AllByRecursion_append P (when (same_tree n m) yes) _ (when_all P (same_tree n m) yes (λ e. in_second (are_sides n yes yes m) (are_sides n yes m yes) _ (side n m yes e)))
    (or_right (are_sides n (Node Eq n m) yes m) _ (or_right (are_sides n (Node Eq n m) m yes) _ (same_tree_self (Node Eq n m))), tt))
sides_true (Node And m n) =
    let P : Tree → Type 0 = λ r. is_truth_of_sides (Node And m n) r ≡ true in
    AllByRecursion_append P (when (same_tree n yes) m) _ (when_all P (same_tree n yes) m (λ e. in_first (are_sides n m yes m) _ (side n yes m e)))
    (AllByRecursion_append P (when (same_tree m yes) n) _ (when_all P (same_tree m yes) n (λ e. in_second (are_sides n n yes m) (are_sides m n yes n) _ (side m yes n e)))
    (AllByRecursion_append P (when (same_tree n no) no) _ (when_all P (same_tree n no) no (λ e. in_third (are_sides n no yes m) (are_sides m no yes n) (are_sides n no no no) _ (side n no no e)))
    (when_all P (same_tree m no) no (λ e. in_fourth (are_sides n no yes m) (are_sides m no yes n) (are_sides n no no no) (are_sides m no no no) (side m no no e)))))
sides_true (Node Or m n) =
    let P : Tree → Type 0 = λ r. is_truth_of_sides (Node Or m n) r ≡ true in
    AllByRecursion_append P (when (same_tree n yes) yes) _ (when_all P (same_tree n yes) yes (λ e. in_first (are_sides n yes yes yes) _ (side n yes yes e)))
    (AllByRecursion_append P (when (same_tree m yes) yes) _ (when_all P (same_tree m yes) yes (λ e. in_second (are_sides n yes yes yes) (are_sides m yes yes yes) _ (side m yes yes e)))
    (AllByRecursion_append P (when (same_tree n no) m) _ (when_all P (same_tree n no) m (λ e. in_third (are_sides n m yes yes) (are_sides m m yes yes) (are_sides n m no m) _ (side n no m e)))
    (when_all P (same_tree m no) n (λ e. in_fourth (are_sides n n yes yes) (are_sides m n yes yes) (are_sides n n no m) (are_sides m n no n) (side m no n e)))))
sides_true (Node Not m b) =
    let P : Tree → Type 0 = λ r. is_truth_of_sides (Node Not m b) r ≡ true in (
      in_first (same_tree (Node Eq m no) (Node Eq m no)) _ (same_tree_self (Node Eq m no)),
      AllByRecursion_append P (when (same_tree m yes) no) _ (when_all P (same_tree m yes) no (λ e. in_second (same_tree no (Node Eq m no)) (are_sides m no yes no) _ (side m yes no e)))
          (AllByRecursion_append P (when (same_tree m no) yes) _ (when_all P (same_tree m no) yes (λ e. in_third (same_tree yes (Node Eq m no)) (are_sides m yes yes no) (are_sides m yes no yes) _ (side m no yes e)))
          (AllByRecursion_weaker (λ r. is_double m r ≡ true) P (λ r e. in_fourth (same_tree r (Node Eq m no)) (are_sides m r yes no) (are_sides m r no yes) (is_double m r) e) (of_double m) (double m))),
    )
  where
    double : (m : Tree) → AllByRecursion (λ r. is_double m r ≡ true) (of_double m)
    double (Node Not a b) = (same_tree_self a, tt)
    double m = tt
sides_true t = tt

pub truths_true : (s : Scene) (p : ℕ) → AllByRecursion (IsTruth s p) (by_truths s (part_at s.game p))
truths_true s p =
    let t : Tree = part_at s.game p in
    AllByRecursion_append (IsTruth s p) (when (is_of_type s 0 t) (Node Eq t yes)) (of_sides t)
    (when_all (IsTruth s p) (is_of_type s 0 t) (Node Eq t yes) (λ e. in_first (same_tree (Node Eq t yes) (Node Eq t yes)) _ (same_tree_self (Node Eq t yes))))
    (AllByRecursion_weaker (λ r. is_truth_of_sides t r ≡ true) (IsTruth s p) (λ r e. or_right (same_tree r (Node Eq t yes)) _ e) (of_sides t) (sides_true t))
