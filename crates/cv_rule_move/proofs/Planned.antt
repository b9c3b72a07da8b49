-- How large a game is with a definition moved, and what a plan says of it.
use Rattle.std.proofs.Common.{◌≡◌, ℕ, ◌+◌, ◌*◌, ◌<◌, ◌≤◌, Some, refl, ap, arith}
use Rattle.std.proofs.Math.Nat.{mul-le-mul_left}
use Rattle.cv_syntax_trees.specs.declared.head.Head.{Head}
use Rattle.cv_syntax_trees.specs.declared.head.Head.TheVariants.{Branch, Cons, Find, If, Let, New}
use Rattle.cv_syntax_trees.specs.Head.{weight}
use Rattle.cv_syntax_trees.specs.Tree.{Tree, Empty, Node, size}
use Rattle.cv_path.specs.declared.place.Lies.{Lies}
use Rattle.cv_path.specs.declared.place.Lies.TheVariants.{Here, Within, Behind}
use Rattle.cv_path.specs.Places.{LiesAt}
use Rattle.cv_path.proofs.Bounds.{lies_somewhere}
use Rattle.cv_path.proofs.Going.{subtree_behind, subtree_here, subtree_within}
use Rattle.cv_scene.specs.Scenes.{or_empty, part_at}
use Rattle.cv_rule_move.specs.Moving.{defined, in_bodies, in_branches, moved}
use Rattle.cv_syntax.proofs.Walking.{weight_le}

-- what stands at a place ends within the tree

pub part_within : (t : Tree) (p : ℕ) → p < size t → p + size (part_at t p) ≤ size t
unfolding size
part_within Empty p l = absurd (omega (arith, l))
part_within (Node h a b) p l = go (lies_somewhere h a p) (λ q. part_within a q) (λ q. part_within b q)
  where
    t : Tree
    t = Node h a b

    go : (k : Lies) × LiesAt h a p k → ((q : ℕ) → q < size a → q + size (part_at a q) ≤ size a) → ((q : ℕ) → q < size b → q + size (part_at b q) ≤ size b) → p + size (part_at t p) ≤ weight h + size a + size b
    go (Here, k) x y =
        let m : p < weight h = k in
        omega (arith, m, weight_le h, ap (λ o. size (or_empty o)) (subtree_here t h a b p 0 refl k))
    go (Within q, k) x y =
        let m : weight h + q ≡ p = k.0 in
        omega (arith, m, x q k.1, ap (λ o. size (or_empty o)) (subtree_within t h a b p q refl k))
    go (Behind q, k) x y =
        let m : weight h + size a + q ≡ p = k in
        omega (arith, m, y q (omega (arith, l, m)), ap (λ o. size (or_empty o)) (subtree_behind t h a b p q refl k))

-- a definition there, and the construct behind it

heavy : (h : Head) (a b : Tree) (x : ℕ) → Some x ≡ defined (Node h a b) → weight h ≡ 1
heavy (New y T) a b x e = refl
heavy (Let y T) a b x e = refl
heavy h a b x e = absurd (cc)

pub behind_within : (t : Tree) (p : ℕ) (h k : Head) (a b d : Tree) (x : ℕ) → part_at t p ≡ Node h a (Node k b d) → Some x ≡ defined (Node h a (Node k b d)) → p < size t → p + 1 + size a + weight k + size b ≤ size t
unfolding size
behind_within t p h k a b d x e f l = omega (arith, part_within t p l, ap size e, heavy h a (Node k b d) x f)

-- what a definition before each body adds

module _ (before : Tree → Tree) (n : ℕ) (adds : (b : Tree) → size (before b) ≡ n + size b) where
  branches_size : (bs : Tree) → size (in_branches before bs) ≤ size bs + size bs * n
  unfolding size
  branches_size (Node Cons (Node Branch us (Node Cons cells (Node Cons c b))) more) = omega (arith, adds b, branches_size more)
  branches_size bs = omega arith

  bodies_size : (k : Tree) → size (in_bodies before k) ≤ size k + (size k + 1) * n
  unfolding size
  bodies_size Empty = omega arith
  bodies_size (Node If c (Node Cons t (Node Cons e r))) = omega (arith, adds t, adds e)
  bodies_size (Node (Find l) bs e) = omega (arith, branches_size bs, adds e)
  bodies_size (Node h a b) = omega (arith, adds b)

few : (k n : ℕ) → n ≤ 50000 → k ≤ 50000 → k + (k + 1) * n ≤ 2500100000
few k n l m = omega (arith, m, mul-le-mul_left (k + 1) l)

pub moved_size : (t : Tree) → size t ≤ 50000 → size (moved t) ≤ 2500100000
unfolding size
moved_size Empty l = omega arith
moved_size (Node h a construct) l =
    omega (arith, bodies_size (Node h a) (weight h + size a) (λ b. refl) construct, few (size construct) (weight h + size a) (omega (arith, l)) (omega (arith, l)))
