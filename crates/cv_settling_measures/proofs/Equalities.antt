-- How many equalities at large types trees have, by the sorts of one game.
use Rattle.std.proofs.Common.{◌≡◌, ℕ, ◌+◌, ◌-◌, ◌≤◌, Bool, true, false, cond, Some, refl, sym, ap, ◌∙◌, arith, nat_lt}
use Rattle.cv_syntax_trees.specs.declared.head.Head.{Head}
use Rattle.cv_syntax_trees.specs.declared.head.Head.TheVariants.{Eq, Read}
use Rattle.cv_syntax_trees.specs.Head.{weight}
use Rattle.cv_syntax_trees.specs.Tree.{Tree, Empty, Node, size, subtree}
use Rattle.cv_syntax_trees.proofs.lists.Options.{some_injective}
use Rattle.cv_meaning.specs.Replaced.{replaced}
use Rattle.cv_scope_rules.specs.typing.Parts.{nothing_above}
use Rattle.cv_scope_rules.specs.typing.Signature.{sort_of}
use Rattle.cv_scene.specs.Scenes.{Scene}
use Rattle.cv_scene.specs.Terms.{signature_in}
use Rattle.cv_settling_rules.specs.Measure.{is_large_equality, is_of_large, large_equalities}
use Rattle.cv_settling_measures.proofs.Nodes.{IsIn, in_first, in_second, itself}

-- sizes

pub size_replaced : (t : Tree) (p : ℕ) (old m : Tree) → subtree t p ≡ Some old → size (replaced t p m) + size old ≡ size t + size m
unfolding size replaced subtree
size_replaced Empty p old m s = absurd (cc)
size_replaced (Node h a b) p old m s = go (nat_lt p (weight h)) (nat_lt p (weight h + size a)) s (size_replaced a (p - weight h) old m) (size_replaced b (p - (weight h + size a)) old m)
  where
    c : Tree
    c = replaced a (p - weight h) m

    d : Tree
    d = replaced b (p - (weight h + size a)) m

    go : (v w : Bool) → cond v (Some (Node h a b)) (cond w (subtree a (p - weight h)) (subtree b (p - (weight h + size a)))) ≡ Some old
        → (subtree a (p - weight h) ≡ Some old → size c + size old ≡ size a + size m) → (subtree b (p - (weight h + size a)) ≡ Some old → size d + size old ≡ size b + size m)
        → size (cond v m (cond w (Node h c b) (Node h a d))) + size old ≡ weight h + size a + size b + size m
    go true w e f g = omega (arith, ap size (some_injective e))
    go false true e f g = omega (arith, f e)
    go false false e f g = omega (arith, g e)

abbrev pub one_if : Bool → ℕ
one_if v = cond v 1 0

module _ (s : Scene) where
  -- the sort of a term
  abbrev pub is_large_term : Tree → Bool
  is_large_term m = is_of_large s (sort_of (signature_in s) nothing_above m)

  -- it is known by the head
  pub large_head : (h : Head) (a b c d : Tree) → is_large_term (Node h a b) ≡ is_large_term (Node h c d)
  large_head (Read x) a b c d = refl
  large_head h a b c d = refl

  pub same_equality : (h : Head) (a c : Tree) → is_large_term a ≡ is_large_term c → is_large_equality s h a ≡ is_large_equality s h c
  same_equality Eq a c e = e
  same_equality h a c e = refl

  abbrev pub counted : Head → Tree → ℕ
  counted h a = one_if (is_large_equality s h a)

  -- of a tree with another one at a place

  large_replaced : (old m : Tree) → is_large_term m ≡ is_large_term old → (t : Tree) (p : ℕ) → subtree t p ≡ Some old → is_large_term (replaced t p m) ≡ is_large_term t
  unfolding subtree replaced
  large_replaced old m e Empty p f = absurd (cc)
  large_replaced old m e (Node h a b) p f = go (nat_lt p (weight h)) (nat_lt p (weight h + size a)) f
    where
      c : Tree
      c = replaced a (p - weight h) m

      d : Tree
      d = replaced b (p - (weight h + size a)) m

      go : (v w : Bool) → cond v (Some (Node h a b)) (cond w (subtree a (p - weight h)) (subtree b (p - (weight h + size a)))) ≡ Some old
          → is_large_term (cond v m (cond w (Node h c b) (Node h a d))) ≡ is_large_term (Node h a b)
      go true w f = e ∙ ap is_large_term (sym (some_injective f))
      go false true f = large_head h c b a b
      go false false f = large_head h a d a b

  pub equalities_replaced : (old m : Tree) → is_large_term m ≡ is_large_term old → (t : Tree) (p : ℕ) → subtree t p ≡ Some old
      → large_equalities s (replaced t p m) + large_equalities s old ≡ large_equalities s t + large_equalities s m
  unfolding large_equalities subtree replaced
  equalities_replaced old m e Empty p f = absurd (cc)
  equalities_replaced old m e (Node h a b) p f =
      go (nat_lt p (weight h)) (nat_lt p (weight h + size a)) f (equalities_replaced old m e a (p - weight h)) (large_replaced old m e a (p - weight h)) (equalities_replaced old m e b (p - (weight h + size a)))
    where
      c : Tree
      c = replaced a (p - weight h) m

      d : Tree
      d = replaced b (p - (weight h + size a)) m

      go : (v w : Bool) → cond v (Some (Node h a b)) (cond w (subtree a (p - weight h)) (subtree b (p - (weight h + size a)))) ≡ Some old
          → (subtree a (p - weight h) ≡ Some old → large_equalities s c + large_equalities s old ≡ large_equalities s a + large_equalities s m)
          → (subtree a (p - weight h) ≡ Some old → is_large_term c ≡ is_large_term a)
          → (subtree b (p - (weight h + size a)) ≡ Some old → large_equalities s d + large_equalities s old ≡ large_equalities s b + large_equalities s m)
          → large_equalities s (cond v m (cond w (Node h c b) (Node h a d))) + large_equalities s old ≡ counted h a + (large_equalities s a + large_equalities s b) + large_equalities s m
      go true w f k l n = omega (arith, ap (large_equalities s) (some_injective f))
      go false true f k l n = omega (arith, k f, ap one_if (same_equality h c a (l f)))
      go false false f k l n = omega (arith, n f)

  -- of a part

  pub equalities_in : (u t : Tree) → IsIn u t → large_equalities s u ≤ large_equalities s t
  unfolding large_equalities
  equalities_in u t itself = omega arith
  equalities_in u t (in_first {h = h} {a = a} {b = b} i) = omega (arith, equalities_in u a i)
  equalities_in u t (in_second {h = h} {a = a} {b = b} i) = omega (arith, equalities_in u b i)

pub size_in : (u t : Tree) → IsIn u t → size u ≤ size t
unfolding size
size_in u t itself = omega arith
size_in u t (in_first {h = h} {a = a} {b = b} i) = omega (arith, size_in u a i)
size_in u t (in_second {h = h} {a = a} {b = b} i) = omega (arith, size_in u b i)
