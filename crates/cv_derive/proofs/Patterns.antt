-- Equations with terms for names.
use Rattle.std.proofs.Common.{◌≡◌, ℕ, List, refl, sym, ap, ◌∙◌}
use Rattle.cv_syntax_trees.specs.declared.head.Head.{Head}
use Rattle.cv_syntax_trees.specs.declared.head.Head.TheVariants.{Let}
use Rattle.cv_syntax_trees.specs.Children.{is_empty}
use Rattle.cv_syntax_trees.specs.Tree.{Tree, Empty, Node, same_tree}
use Rattle.cv_syntax.proofs.Trees.{same_open, tree_of_NoTree}
use Rattle.cv_derive_facts.specs.Facts.{equation_of}
use Rattle.cv_derive_reasons.specs.substitution.Under.{under}
use Rattle.cv_derive_reasons.proofs.inferences.Forms.{empty_form}
use Rattle.cv_derive_reasons.proofs.substitution.Unders.{under_empty, under_node}

pub ruleset assumptions = (tree_of_NoTree, empty_form)

pub other_equation : (names : List (ℕ × ℕ)) (terms : Tree) (rs : List (ℕ × ℕ)) (t u : Tree) (h : Head) (a b : Tree) → u ≡ Node h a b → ((x T : ℕ) → h ≡ Let x T → ⊥) → is_empty t ≡ same_tree t (under names terms (equation_of rs u))
other_equation names terms rs t u h a b e n = sym (ap (λ v. same_tree t (under names terms (equation_of rs v))) e ∙ (ap (λ v. same_tree t (under names terms v)) (go h n) ∙ (ap (same_tree t) (under_empty _ terms) ∙ empty_form t)))
  where
    go : (h : Head) → ((x T : ℕ) → h ≡ Let x T → ⊥) → equation_of rs (Node h a b) ≡ Empty
    go (Let x T) n = absurd (n x T refl)
    go h n = refl

pub ruleset patterns = (tree_of_NoTree, same_open, under_empty, under_node)
