-- Cells with terms for names.
use Rattle.std.proofs.Common.{◌≡◌, ◌&&◌, ℕ, zero, suc, ◌≤◌, Bool, true, false, List, [], ◌∷◌, length, drop, nat_eq, Option, Some, None, refl, sym, ap, ap₂, ◌∙◌, arith, eqb-true}
use Rattle.std.proofs.lemmas.Bool.{eq-eqb, ne_eqb, eqb-false}
use Rattle.cv_syntax_trees.specs.declared.head.Head.TheVariants.{Cons, Leaf, Read}
use Rattle.cv_syntax_trees.specs.Children.{is_empty}
use Rattle.cv_syntax_trees.specs.Tree.{Tree, Empty, Node, lone, same_tree}
use Rattle.cv_syntax.proofs.Trees.{same_open, tree_of_NoTree}
use Rattle.cv_scene.specs.lines.Given.{with_given}
use Rattle.cv_scope_rules.specs.Context.{index_terms}
use Rattle.cv_derive_reasons.specs.inferences.Sides.{sides_of}
use Rattle.cv_derive_reasons.specs.substitution.Under.{under}
use Rattle.cv_derive_reasons.proofs.inferences.Forms.{empty_form, over_form, tested}
use Rattle.cv_derive_reasons.proofs.substitution.Unders.{under_empty, under_node}
use Rattle.cv_derive_reasons.specs.cells.Cells.{are_indices_under}

pub ruleset rows = (tree_of_NoTree)

-- at the end of a list all indices were there
pub rows_end : (names : List (ℕ × ℕ)) (terms : Tree) (rs : List (ℕ × ℕ)) (n : ℕ) (t : Tree) → n ≤ length rs → t ≡ Empty → nat_eq n (length rs) ≡ are_indices_under names terms (drop n rs) t
rows_end names terms rs n t l e = at_empty rs n l ∙ ap (are_indices_under names terms (drop n rs)) (sym e)
  where
    at_empty : (rs : List (ℕ × ℕ)) (n : ℕ) → n ≤ length rs → nat_eq n (length rs) ≡ are_indices_under names terms (drop n rs) Empty
    at_empty [] zero l = eq-eqb 0 0 refl
    at_empty [] (suc n) l = absurd (omega arith)
    at_empty (r ∷ rs) zero l = ne_eqb 0 (length (r ∷ rs)) (λ z. omega arith)
    at_empty (r ∷ rs) (suc n) l = same_suc n (length rs) ∙ at_empty rs n (omega arith)
      where
        same_suc : (a b : ℕ) → nat_eq (suc a) (suc b) ≡ nat_eq a b
        same_suc a b = go (nat_eq a b) refl
          where
            go : (c : Bool) → nat_eq a b ≡ c → nat_eq (suc a) (suc b) ≡ c
            go true f = eq-eqb (suc a) (suc b) (ap suc (eqb-true a b f))
            go false f = ne_eqb (suc a) (suc b) (λ z. eqb-false a b f (omega arith))

rows_same : (names : List (ℕ × ℕ)) (terms : Tree) (rs : List (ℕ × ℕ)) (t : Tree) → same_tree t (under names terms (index_terms rs)) ≡ are_indices_under names terms rs t
unfolding same_tree with_given
rows_same names terms [] Empty = refl
rows_same names terms [] (Node h a b) = refl
rows_same names terms (r ∷ rs) Empty = refl
rows_same names terms (r ∷ rs) (Node Cons a b) = ap (λ z. same_tree a (under names terms (lone (Leaf r.0))) && z) (rows_same names terms rs b)
rows_same names terms (r ∷ rs) (Node h a b) = refl

pub array_form : (names : List (ℕ × ℕ)) (terms : Tree) (x : ℕ) (rs : List (ℕ × ℕ)) (t : Tree) → same_tree t (under names terms (Node (Read x) (index_terms rs) Empty)) ≡ tested (sides_of (Read x) t) (λ p. are_indices_under names terms rs p.0 && is_empty p.1)
array_form names terms x rs t = ap (same_tree t) (under_node _ terms (Read x) (index_terms rs) Empty) ∙ (over_form (Read x) (under names terms (index_terms rs)) (under names terms Empty) t ∙ go (sides_of (Read x) t))
  where
    go : (o : Option (Tree × Tree)) → tested o (λ p. same_tree p.0 (under names terms (index_terms rs)) && same_tree p.1 (under names terms Empty)) ≡ tested o (λ p. are_indices_under names terms rs p.0 && is_empty p.1)
    go None = refl
    go (Some p) = ap₂ ◌&&◌ (rows_same names terms rs p.0) (ap (same_tree p.1) (under_empty _ terms) ∙ empty_form p.1)

pub ruleset arrays = (tree_of_NoTree, array_form)

pub ruleset patterns = (tree_of_NoTree, same_open, under_empty, under_node)
