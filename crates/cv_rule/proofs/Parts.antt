-- What stands at a place of a tree ends within the tree.
use Rattle.std.proofs.Common.{◌≡◌, ℕ, ◌+◌, ◌-◌, ◌<◌, ◌≤◌, Bool, true, false, nat_lt, if◌then◌else◌, Option, Some, None, refl, ap, arith, lit≤}
use Rattle.std.proofs.lemmas.Bool.Decides.{nat_tests}
use Rattle.cv_syntax_trees.specs.declared.head.Head.{Head}
use Rattle.cv_syntax_trees.specs.declared.head.Head.TheVariants.{Cons}
use Rattle.cv_syntax_trees.specs.Head.{weight}
use Rattle.cv_syntax_trees.specs.Tree.{Tree, Empty, Node, size, subtree}
use Rattle.cv_scene.specs.Scenes.{or_empty, part_at}
use Rattle.cv_syntax.proofs.Walking.{weight_le}

module _ (h : Head) (a b : Tree) (p : ℕ) (part : Tree) where
  at_node : p < weight h → Node h a b ≡ part → p + size part ≤ size (Node h a b)
  at_node l e = let i = weight_le h in let j = ap size e in omega arith

  in_first : weight h ≤ p → (p - weight h) + size part ≤ size a → p + size part ≤ size (Node h a b)
  unfolding size
  in_first l i = omega arith

  in_second : weight h + size a ≤ p → (p - (weight h + size a)) + size part ≤ size b → p + size part ≤ size (Node h a b)
  unfolding size
  in_second l i = omega arith

  by_place : (c d : Bool) → nat_lt p (weight h) ≡ c → nat_lt p (weight h + size a) ≡ d → (subtree a (p - weight h) ≡ Some part → (p - weight h) + size part ≤ size a)
      → (subtree b (p - (weight h + size a)) ≡ Some part → (p - (weight h + size a)) + size part ≤ size b)
      → (if c then Some (Node h a b) else if d then subtree a (p - weight h) else subtree b (p - (weight h + size a))) ≡ Some part → p + size part ≤ size (Node h a b)
  by_place true d f g i j e = at_node (grind (arith, nat_tests)) (cc)
  by_place false true f g i j e = in_first (grind (arith, nat_tests)) (i e)
  by_place false false f g i j e = in_second (grind (arith, nat_tests)) (j e)

pub part_fits : (t : Tree) (p : ℕ) (part : Tree) → subtree t p ≡ Some part → p + size part ≤ size t
unfolding subtree
part_fits Empty p part e = absurd (cc)
part_fits (Node h a b) p part e =
    by_place h a b p part (nat_lt p (weight h)) (nat_lt p (weight h + size a)) refl refl (part_fits a (p - weight h) part) (part_fits b (p - (weight h + size a)) part) e

pub within_limit : (t : Tree) (p n : ℕ) → size t < n → p < n → p + size (part_at t p) < n
unfolding size
within_limit t p n l i = given (subtree t p) refl
  where
    none_weighs : p + size Empty < n
    none_weighs = omega arith

    given : (o : Option Tree) → subtree t p ≡ o → p + size (or_empty o) < n
    given None e = none_weighs
    given (Some part) e = let j = part_fits t p part e in omega arith
