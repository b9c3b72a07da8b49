-- What is asked of equations of truth values, by the children of their heads.
use Rattle.std.proofs.Common.{◌≡◌, Bool, Option, Some, None, refl}
use Rattle.std.specs.Prelude.{◌||◌}
use Rattle.cv_syntax_trees.specs.declared.head.Head.TheVariants.{Eq, And, Or, Not}
use Rattle.cv_syntax_trees.specs.Tree.{Tree, Empty, Node, same_tree}
use Rattle.cv_syntax.proofs.Trees.{tree_of_NoTree}
use Rattle.cv_scene.specs.lines.Truths.{is_double, is_truth_of_and, is_truth_of_equality, is_truth_of_equation, is_truth_of_not, is_truth_of_or, is_truth_of_sides, yes}
use Rattle.cv_derive_reasons.specs.inferences.Sides.{sides_of}
use Rattle.cv_derive_reasons.proofs.inferences.Forms.{over_form, tested}

abbrev Pair : Type 0
Pair = Tree × Tree

abbrev pub chosen : Option Pair → (Pair → Bool) → Bool → Bool
chosen None f d = d
chosen (Some p) f d = f p

pub double_form : (m r : Tree) → is_double m r ≡ tested (sides_of Not m) (λ p. same_tree r p.0)
double_form (Node Not a b) r = refl
double_form m r = refl

pub sides_form : (l r : Tree) → is_truth_of_sides l r ≡ chosen (sides_of Eq l) (λ p. is_truth_of_equality p.0 p.1 r) (chosen (sides_of And l) (λ p. is_truth_of_and p.0 p.1 r) (chosen (sides_of Or l) (λ p. is_truth_of_or p.0 p.1 r) (tested (sides_of Not l) (λ p. is_truth_of_not p.0 r))))
sides_form (Node Eq m n) r = refl
sides_form (Node And m n) r = refl
sides_form (Node Or m n) r = refl
sides_form (Node Not m n) r = refl
sides_form l r = refl

pub equation_form : (t : Tree) → is_truth_of_equation t ≡ tested (sides_of Eq t) (λ p. same_tree p.1 (Node Eq p.0 yes) || is_truth_of_sides p.0 p.1)
equation_form (Node Eq l r) = refl
equation_form t = refl

pub ruleset truths = (tree_of_NoTree, over_form, double_form, sides_form, equation_form)
