-- The first fault of a tree, node by node, as a program finds it.
use Rattle.std.proofs.Common.{◌≡◌, ℕ, ◌+◌, Option, Some, None, refl, ap, sym, subst, ◌∙◌}
use Rattle.cv_syntax_trees.specs.declared.head.Head.{Head}
use Rattle.cv_syntax_trees.specs.Head.{weight}
use Rattle.cv_syntax_trees.specs.Tree.{Tree, Empty, Node, size}
use Rattle.cv_syntax.specs.faults.Walk.{Walk, IsRefusalOf, first_of, placed, first_fault}

module _ {S F : Type 0} (w : Walk S F) where
  pub fault_end : (s : S) (p : ℕ) (t : Tree) → t ≡ Empty → first_fault w s p t ≡ None
  unfolding first_fault
  fault_end s p t e = ap (first_fault w s p) e

  -- a node, with what is known of it and its parts
  pub fault_parts : (s s1 s2 : S) (p p1 p2 : ℕ) (t : Tree) (h : Head) (a b : Tree) (o : Option F) → t ≡ Node h a b → o ≡ w.fault s h a b → s1 ≡ w.first s h a → p1 ≡ p + weight h → s2 ≡ w.second s h a → p2 ≡ p1 + size a → first_fault w s p t ≡ first_of (placed p o) (first_of (first_fault w s1 p1 a) (first_fault w s2 p2 b))
  unfolding first_fault
  fault_parts s s1 s2 p p1 p2 t h a b o et eo e1 q1 e2 q2 =
      let q3 : p2 ≡ p + weight h + size a = q2 ∙ ap (λ n. n + size a) q1 in
      ap (first_fault w s p) et
      ∙ λ i. first_of (placed p (sym eo i)) (first_of (first_fault w (sym e1 i) (sym q1 i) a) (first_fault w (sym e2 i) (sym q3 i) b))

module _ {F : Type 0} (p : ℕ) where
  first_placed : (o : Option F) (f : F) (m : Option (ℕ × F)) → o ≡ Some f → first_of (placed p o) m ≡ Some (p, f)
  first_placed None f m e = absurd (cc)
  first_placed (Some g) f m e = let d : g ≡ f = cc in ap (λ x. let y : Option (ℕ × F) = Some (p, x) in y) d

  pub skip_two : (o : Option F) (m n : Option (ℕ × F)) → o ≡ None → m ≡ None → first_of (placed p o) (first_of m n) ≡ n
  skip_two None None n e f = refl
  skip_two None (Some x) n e f = absurd (cc)
  skip_two (Some x) m n e f = absurd (cc)

  -- the fault of the node itself is refused
  pub refused_here : (o : Option F) (f : F) (m total named : Option (ℕ × F)) → o ≡ Some f → first_of (placed p o) m ≡ total → named ≡ Some (p, f) → IsRefusalOf total named
  refused_here o f m total named e h n = subst (IsRefusalOf total) (sym n) (sym h ∙ first_placed o f m e)

  -- the fault of the first part is refused
  pub refused_first : (o : Option F) (m n total named : Option (ℕ × F)) → o ≡ None → first_of (placed p o) (first_of m n) ≡ total → IsRefusalOf m named → IsRefusalOf total named
  refused_first o m n total None e h i = tt
  refused_first o m n total (Some x) e h i = sym h ∙ (ap (λ y. first_of (placed p y) (first_of m n)) e ∙ ap (λ y. first_of y n) i)
