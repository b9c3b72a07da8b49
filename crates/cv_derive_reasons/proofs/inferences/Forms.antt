-- What is asked of terms, by the children of their heads.
use Rattle.std.proofs.Common.{◌≡◌, ◌&&◌, Bool, true, false, Option, Some, None, refl, ◌∙◌}
use Rattle.std.specs.Prelude.{if◌then◌else◌}
use Rattle.cv_syntax_trees.specs.declared.head.Head.{Head}
use Rattle.cv_syntax_trees.specs.declared.head.Head.TheVariants.{Eq, And, Not}
use Rattle.cv_syntax_trees.specs.Children.{is_empty}
use Rattle.cv_syntax_trees.specs.Head.{same_head}
use Rattle.cv_syntax_trees.specs.Tree.{Tree, Empty, Node, same_tree}
use Rattle.cv_syntax.proofs.Trees.{same_open, tree_of_NoTree}
use Rattle.cv_scene.specs.lines.Inferences.{is_both, is_left, is_refuted, is_reflexive, is_replaced_by, is_right_side, is_symmetric, is_transitive}
use Rattle.cv_scene.specs.lines.Truths.{no}
use Rattle.cv_derive_reasons.specs.inferences.Sides.{sides_of}

abbrev Pair : Type 0
Pair = Tree × Tree

-- a test of two children, if there are

abbrev pub tested : Option Pair → (Pair → Bool) → Bool
tested None f = false
tested (Some p) f = f p

pub over_form : (h : Head) (m n t : Tree) → same_tree t (Node h m n) ≡ tested (sides_of h t) (λ p. same_tree p.0 m && same_tree p.1 n)
over_form h m n Empty = same_open Empty (Node h m n)
over_form h m n (Node k a b) = same_open (Node k a b) (Node h m n) ∙ go (same_head k h)
  where
    go : (c : Bool) → (c && (same_tree a m && same_tree b n)) ≡ tested (if c then Some (a, b) else None) (λ p. same_tree p.0 m && same_tree p.1 n)
    go true = refl
    go false = refl

pub empty_form : (t : Tree) → same_tree t Empty ≡ is_empty t
unfolding same_tree
empty_form Empty = refl
empty_form (Node h a b) = refl

pub reflexive_form : (t : Tree) → is_reflexive t ≡ tested (sides_of Eq t) (λ p. same_tree p.0 p.1)
reflexive_form (Node Eq m n) = refl
reflexive_form t = refl

pub symmetric_form : (l t : Tree) → is_symmetric l t ≡ tested (sides_of Eq l) (λ e. tested (sides_of Eq t) (λ p. same_tree p.0 e.1 && same_tree p.1 e.0))
symmetric_form (Node Eq x y) (Node Eq m n) = refl
symmetric_form (Node Eq x y) t = refl
symmetric_form l t = refl

pub transitive_form : (l k t : Tree) → is_transitive l k t ≡ tested (sides_of Eq l) (λ d. tested (sides_of Eq k) (λ e. tested (sides_of Eq t) (λ p. same_tree d.1 e.0 && (same_tree p.0 d.0 && same_tree p.1 e.1))))
transitive_form (Node Eq w x) (Node Eq y z) (Node Eq m n) = refl
transitive_form (Node Eq w x) (Node Eq y z) t = refl
transitive_form (Node Eq w x) k t = refl
transitive_form l k t = refl

pub both_form : (l k t : Tree) → is_both l k t ≡ tested (sides_of And t) (λ p. same_tree p.0 l && same_tree p.1 k)
both_form l k (Node And m n) = refl
both_form l k t = refl

pub left_form : (l t : Tree) → is_left l t ≡ tested (sides_of And l) (λ p. same_tree t p.0)
left_form (Node And m n) t = refl
left_form l t = refl

pub right_form : (l t : Tree) → is_right_side l t ≡ tested (sides_of And l) (λ p. same_tree t p.1)
right_form (Node And m n) t = refl
right_form l t = refl

-- a line that is cited is there

abbrev pub there : Tree → Bool → Bool
there Empty c = false
there (Node h a b) c = c

pub replaced_form : (l k t : Tree) → is_replaced_by l k t ≡ there l (tested (sides_of Eq k) (λ p. same_tree l p.0 && same_tree t p.1))
replaced_form Empty k t = refl
replaced_form (Node h a b) (Node Eq m n) t = refl
replaced_form (Node h a b) k t = refl

pub refuted_form : (l k t : Tree) → is_refuted l k t ≡ there l (tested (sides_of Not k) (λ p. same_tree l p.0 && same_tree t no))
refuted_form Empty k t = refl
refuted_form (Node h a b) (Node Not m c) t = refl
refuted_form (Node h a b) k t = refl

pub ruleset opened = (tree_of_NoTree, over_form, empty_form)

pub ruleset forms = (tree_of_NoTree, reflexive_form, symmetric_form, transitive_form, both_form, left_form, right_form, replaced_form, refuted_form)
