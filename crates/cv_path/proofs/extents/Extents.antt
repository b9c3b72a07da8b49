-- How large trees are with a part changed.
use Rattle.std.proofs.Common.{◌≡◌, ℕ, ◌+◌, ◌-◌, ◌≤◌, ◌<◌, max, Bool, true, false, cond, ◌⊎◌, inl, inr, Some, None, refl, sym, ap, ◌∙◌, arith, nat_lt, ltb, ltb-true, ltb-false}
use Rattle.cv_syntax_trees.specs.declared.head.Head.{Head}
use Rattle.cv_syntax_trees.specs.Head.{weight}
use Rattle.cv_syntax_trees.specs.Tree.{Tree, Empty, Node, size, depth, subtree}
use Rattle.cv_syntax.proofs.Walking.{depth_node, depth_le_size, size_node}
use Rattle.cv_syntax.proofs.Trees.{empty_at, size_Empty}
use Rattle.cv_meaning.specs.Replaced.{replaced}
use Rattle.cv_path.specs.declared.place.Lies.TheVariants.{Here, Within, Behind}
use Rattle.cv_path.specs.Places.{LiesAt}
use Rattle.cv_path.specs.Ways.{turned}
use Rattle.cv_path.proofs.Bounds.{no_subtree}
use Rattle.cv_path.proofs.Going.{replaced_here, replaced_within, replaced_behind}
use Rattle.cv_syntax_trees.proofs.lists.Numbers.{below_or_not}

-- a tree with another part has the nodes of the new part in place of those of the old one
pub size_replaced : (t : Tree) (p : ℕ) (new part : Tree) → subtree t p ≡ Some part → size (replaced t p new) + size part ≡ size t + size new
unfolding size replaced subtree
size_replaced Empty p new part s = absurd (cc)
size_replaced (Node h a b) p new part s = go (nat_lt p (weight h)) (nat_lt p (weight h + size a)) s (size_replaced a (p - weight h) new part) (size_replaced b (p - (weight h + size a)) new part)
  where
    go : (v w : Bool) → cond v (Some (Node h a b)) (cond w (subtree a (p - weight h)) (subtree b (p - (weight h + size a)))) ≡ Some part
        → (subtree a (p - weight h) ≡ Some part → size (replaced a (p - weight h) new) + size part ≡ size a + size new)
        → (subtree b (p - (weight h + size a)) ≡ Some part → size (replaced b (p - (weight h + size a)) new) + size part ≡ size b + size new)
        → size (cond v new (cond w (Node h (replaced a (p - weight h) new) b) (Node h a (replaced b (p - (weight h + size a)) new)))) + size part ≡ weight h + size a + size b + size new
    go true w e f g = let k : Node h a b ≡ part = cc in omega (arith, ap size k)
    go false true e f g = omega (arith, f e)
    go false false e f g = omega (arith, g e)

-- the part is no larger than the tree
pub size_part : (t : Tree) (p : ℕ) (part : Tree) → subtree t p ≡ Some part → size part ≤ size t
size_part t p part s = omega (arith, size_replaced t p Empty part s, size_Empty Empty refl)

pub no_part : (t : Tree) (p : ℕ) → subtree t p ≡ None → size t ≤ p
no_part t p e = (no_subtree t p).0 e

module _ (t : Tree) (h : Head) (a b : Tree) (p q : ℕ) (new : Tree) (e : t ≡ Node h a b) where
  pub depth_here : LiesAt h a p Here → depth (replaced t p new) ≡ depth new
  depth_here l = ap depth (replaced_here t h a b p q e new l)

  pub depth_within : LiesAt h a p (Within q) → depth (replaced t p new) ≡ weight h + max (depth (replaced a q new)) (depth b)
  depth_within l =
      depth_node (replaced t p new) h (replaced a q new) b
      (sym (replaced_within t h a b p q e new l) ∙ ap (λ u. turned false u (replaced a q new)) e)

  pub depth_behind : LiesAt h a p (Behind q) → depth (replaced t p new) ≡ weight h + max (depth a) (depth (replaced b q new))
  depth_behind l =
      depth_node (replaced t p new) h a (replaced b q new)
      (sym (replaced_behind t h a b p q e new l) ∙ ap (λ u. turned true u (replaced b q new)) e)

pub depth_gone : (t : Tree) (p : ℕ) (new : Tree) → t ≡ Empty → depth (replaced t p new) ≡ 0
unfolding depth replaced
depth_gone t p new e = ap (λ u. depth (replaced u p new)) e

pub depth_Empty : (t : Tree) → t ≡ Empty → depth t ≡ 0
unfolding depth
depth_Empty t e = ap depth e

pub ruleset extents = (depth_le_size, size_node, size_Empty, empty_at)
