-- Trees that are compared node by node.
use Rattle.std.proofs.Common.{◌≡◌, ◌&&◌, Bool, true, false, cond, Option, Some, None, refl, sym, ap, ◌∙◌}
use Rattle.cv_syntax_trees.specs.Children.{is_empty}
use Rattle.cv_syntax_trees.specs.declared.head.Head.{Head}
use Rattle.cv_syntax_trees.specs.Head.{same_head}
use Rattle.cv_syntax_trees.specs.Tree.{Tree, Empty, Node, same_tree}
use Rattle.cv_derive_reasons.specs.inferences.Sides.{sides_of}

one_pair : (p q : Tree × Tree) → ◌≡◌ {A = Option (Tree × Tree)} (Some p) (Some q) → p ≡ q
one_pair p q e = cc

-- a tree beside a node: the same head, and the same children
module _ (h : Head) (c d : Tree) where
  pub other_head : (t : Tree) → None ≡ sides_of h t → same_tree t (Node h c d) ≡ false
  unfolding same_tree
  other_head Empty e = refl
  other_head (Node k a b) e = go (same_head k h) e
    where
      go : (v : Bool) → ◌≡◌ {A = Option (Tree × Tree)} None (cond v (Some (a, b)) None) → (v && (same_tree a c && same_tree b d)) ≡ false
      go true e = absurd (cc)
      go false e = refl

  pub same_sides : (t : Tree) (p : Tree × Tree) → Some p ≡ sides_of h t → same_tree t (Node h c d) ≡ (same_tree p.0 c && same_tree p.1 d)
  unfolding same_tree
  same_sides Empty p e = absurd (cc)
  same_sides (Node k a b) p e = go (same_head k h) e
    where
      go : (v : Bool) → Some p ≡ cond v (Some (a, b)) None → (v && (same_tree a c && same_tree b d)) ≡ (same_tree p.0 c && same_tree p.1 d)
      go true e = let q = one_pair p (a, b) e in sym (ap (λ (z : Tree × Tree). same_tree z.0 c && same_tree z.1 d) q)
      go false e = absurd (cc)

  pub first_differs : (t : Tree) (p : Tree × Tree) → Some p ≡ sides_of h t → (v : Bool) → v ≡ same_tree p.0 c → v ≡ false → same_tree t (Node h c d) ≡ false
  first_differs t p e v f g = same_sides t p e ∙ ap (λ w. w && same_tree p.1 d) (sym f ∙ g)

  pub first_same : (t : Tree) (p : Tree × Tree) → Some p ≡ sides_of h t → (v : Bool) → v ≡ same_tree p.0 c → v ≡ true → same_tree p.1 d ≡ same_tree t (Node h c d)
  first_same t p e v f g = sym (same_sides t p e ∙ ap (λ w. w && same_tree p.1 d) (sym f ∙ g))

pub same_empty : (t : Tree) → same_tree t Empty ≡ is_empty t
unfolding same_tree
same_empty Empty = refl
same_empty (Node h a b) = refl
