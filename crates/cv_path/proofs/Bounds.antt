-- A tree has the places below its size.
use Rattle.std.proofs.Common.{◌≡◌, ℕ, ◌+◌, ◌-◌, ◌<◌, ◌≤◌, Bool, true, false, List, [], ◌++◌, Option, Some, None, refl, sym, ◌∙◌, arith, nat_lt, ltb-true, ltb-false}
use Rattle.std.specs.Prelude.{◌↔◌, option_map}
use Rattle.cv_syntax_trees.specs.declared.head.Head.{Head}
use Rattle.cv_syntax_trees.specs.Head.{weight}
use Rattle.cv_syntax_trees.specs.Tree.{Tree, Empty, Node, size, subtree}
use Rattle.cv_path.specs.declared.place.Lies.{Lies}
use Rattle.cv_path.specs.declared.place.Lies.TheVariants.{Here, Within, Behind}
use Rattle.cv_path.specs.Places.{LiesAt}
use Rattle.cv_path.specs.Copies.{copies_at, added}
use Rattle.cv_path.proofs.Going.{subtree_empty, subtree_here, subtree_within, subtree_behind}
use Rattle.cv_path.proofs.Products.{copies_empty, copies_here, copies_within, copies_behind}

-- a place lies somewhere
pub lies_somewhere : (h : Head) (a : Tree) (p : ℕ) → (l : Lies) × LiesAt h a p l
lies_somewhere h a p = go (nat_lt p (weight h)) refl (nat_lt p (weight h + size a)) refl
  where
    go : (x : Bool) → nat_lt p (weight h) ≡ x → (y : Bool) → nat_lt p (weight h + size a) ≡ y → (l : Lies) × LiesAt h a p l
    go true e y f = (Here, ltb-true p (weight h) e)
    go false e true f =
        let m : weight h ≤ p = ltb-false p (weight h) e in
        let k : p < weight h + size a = ltb-true p (weight h + size a) f in
        (Within (p - weight h), (omega arith, omega arith))
    go false e false f = let k : weight h + size a ≤ p = ltb-false p (weight h + size a) f in (Behind (p - (weight h + size a)), omega arith)

module _ (A : Type 0) where
  abbrev IsNothing : Option A → ℕ → ℕ → Type 0
  IsNothing o s p = (o ≡ None) ↔ (s ≤ p)

  from : (o u : Option A) (s r p q : ℕ) → ((o ≡ None) ↔ (u ≡ None)) → (s ≤ p → r ≤ q) → (r ≤ q → s ≤ p) → IsNothing u r q → IsNothing o s p
  from o u s r p q e f g i = ((λ n. g (i.0 (e.0 n))), (λ l. e.1 (i.1 (f l))))

  same : (o u : Option A) → o ≡ u → (o ≡ None) ↔ (u ≡ None)
  same o u e = ((λ n. sym e ∙ n), (λ n. e ∙ n))

-- a place of a node is missing where it is missing in the child in which it lies
module _ (A : Type 0) (h : Head) (a b : Tree) (p : ℕ) (o : Option A) (f g : ℕ → Option A)
    (here : LiesAt h a p Here → (x : A) × (o ≡ Some x))
    (within : (q : ℕ) → LiesAt h a p (Within q) → (o ≡ None) ↔ (f q ≡ None))
    (behind : (q : ℕ) → LiesAt h a p (Behind q) → (o ≡ None) ↔ (g q ≡ None))
    (first : (q : ℕ) → IsNothing A (f q) (size a) q) (second : (q : ℕ) → IsNothing A (g q) (size b) q) where
  missing : (l : Lies) × LiesAt h a p l → IsNothing A o (weight h + size a + size b) p
  missing (Here, l) = let k : p < weight h = l in let w = here l in ((λ n. absurd (clash w.0 (sym w.1 ∙ n))), (λ m. absurd (omega (arith, m))))
    where
      clash : (x : A) → Some x ≡ None → ⊥
      clash x e = cc
  missing (Within q, l) = let k : weight h + q ≡ p = l.0 in let j : q < size a = l.1 in from A o (f q) (weight h + size a + size b) (size a) p q (within q l) (λ m. absurd (omega (arith, m))) (λ m. absurd (omega (arith, m))) (first q)
  missing (Behind q, l) = let k : weight h + size a + q ≡ p = l in from A o (g q) (weight h + size a + size b) (size b) p q (behind q l) (λ m. omega (arith, m)) (λ m. omega (arith, m)) (second q)

pub no_subtree : (t : Tree) (p : ℕ) → IsNothing Tree (subtree t p) (size t) p
unfolding size
no_subtree Empty p = ((λ n. omega arith), (λ l. subtree_empty Empty p refl))
no_subtree (Node h a b) p =
    missing Tree h a b p (subtree (Node h a b) p) (subtree a) (subtree b)
    (λ l. (Node h a b, subtree_here (Node h a b) h a b p 0 refl l))
    (λ q l. same Tree (subtree (Node h a b) p) (subtree a q) (subtree_within (Node h a b) h a b p q refl l))
    (λ q l. same Tree (subtree (Node h a b) p) (subtree b q) (subtree_behind (Node h a b) h a b p q refl l))
    (no_subtree a) (no_subtree b) (lies_somewhere h a p)

mapped : (f : List ℕ → List ℕ) (o : Option (List ℕ)) → (option_map f o ≡ None) ↔ (o ≡ None)
mapped f None = ((λ n. refl), (λ n. refl))
mapped f (Some x) = ((λ n. absurd (clash (f x) n)), (λ n. absurd (clash x n)))
  where
    clash : (y : List ℕ) → Some y ≡ None → ⊥
    clash y e = cc

pub no_copies : (t : Tree) (p : ℕ) → IsNothing (List ℕ) (copies_at t p) (size t) p
unfolding size
no_copies Empty p = ((λ n. omega arith), (λ l. copies_empty Empty p refl))
no_copies (Node h a b) p =
    missing (List ℕ) h a b p (copies_at (Node h a b) p) (copies_at a) (copies_at b)
    (λ l. ([], copies_here (Node h a b) h a b p 0 refl l))
    (λ q l. same (List ℕ) (copies_at (Node h a b) p) (copies_at a q) (copies_within (Node h a b) h a b p q refl l))
    (λ q l. let e = copies_behind (Node h a b) h a b p q refl l in let m = mapped (λ ns. added h a b q ++ ns) (copies_at b q) in ((λ n. m.0 (sym e ∙ n)), (λ n. e ∙ m.1 n)))
    (no_copies a) (no_copies b) (lies_somewhere h a p)

pub ruleset bounds = (no_subtree, no_copies)
