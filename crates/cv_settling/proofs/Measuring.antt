-- Measures, node by node, and as numbers of 64 bits.
use Rattle.std.proofs.Common.{◌≡◌, ℕ, ◌+◌, ◌<◌, ◌≤◌, min, Bool, true, false, ◌&&◌, ◌||◌, ◌==◌, List, Some, None, refl, sym, ap, ap₂, ◌∙◌, arith, nat_lt, lt-ltb, ltb-true, eq-eqb, eqb-true, ne_eqb}
use Rattle.std.specs.Prelude.{if◌then◌else◌}
use Rattle.std.proofs.lemmas.Bool.{both_ways, ltb_from_iff}
use Rattle.cv_syntax_trees.specs.declared.head.Head.{Head}
use Rattle.cv_syntax_trees.specs.declared.head.Head.TheVariants.{Eq, Read}
use Rattle.cv_syntax_trees.specs.Head.{weight}
use Rattle.cv_syntax_trees.specs.Tree.{Tree, Empty, Node, size}
use Rattle.cv_syntax.proofs.Trees.{size_open}
use Rattle.cv_scope_rules.specs.typing.Parts.{nothing_above}
use Rattle.cv_scope_rules.specs.typing.Signature.{sort_by, sort_of}
use Rattle.cv_scene.specs.Scenes.{Scene}
use Rattle.cv_scene.specs.Terms.{signature_in}
use Rattle.cv_scene.specs.lines.Given.{given_for, or_node, with_given}
use Rattle.cv_settling_rules.specs.Measure.{is_large_equality, is_of_large, large_equalities}

-- sums that end at a greatest number

pub summed : (most total here first second whole x y z : ℕ) → x ≡ min (total + here) most → y ≡ min (x + first) most → z ≡ min (y + second) most → whole ≡ here + (first + second) → z ≡ min (total + whole) most
summed most total here first second whole x y z e f g h = omega arith

pub summed_end : (most total whole : ℕ) → total ≤ most → whole ≡ 0 → total ≡ min (total + whole) most
summed_end most total whole l e = omega arith

-- the measure of a tree

pub size_at : (t : Tree) (h : Head) (a b : Tree) → t ≡ Node h a b → size t ≡ weight h + (size a + size b)
size_at t h a b e = let f : size t ≡ size (Node h a b) = ap size e in omega (arith, size_open (Node h a b))

pub size_end : (t : Tree) → t ≡ Empty → size t ≡ 0
size_end t e = ap size e ∙ size_open Empty

equalities_node : (s : Scene) (h : Head) (a b : Tree) → large_equalities s (Node h a b) ≡ (if is_large_equality s h a then 1 else 0) + (large_equalities s a + large_equalities s b)
unfolding large_equalities
equalities_node s h a b = refl

equalities_empty : (s : Scene) → large_equalities s Empty ≡ 0
unfolding large_equalities
equalities_empty s = refl

pub equalities_at : (s : Scene) (t : Tree) (h : Head) (a b : Tree) → t ≡ Node h a b → large_equalities s t ≡ (if is_large_equality s h a then 1 else 0) + (large_equalities s a + large_equalities s b)
equalities_at s t h a b e = ap (large_equalities s) e ∙ equalities_node s h a b

pub equalities_end : (s : Scene) (t : Tree) → t ≡ Empty → large_equalities s t ≡ 0
equalities_end s t e = ap (large_equalities s) e ∙ equalities_empty s

at_most_one : (b : Bool) → (if b then 1 else 0) ≤ 1
at_most_one true = omega arith
at_most_one false = omega arith

none_at_most : (n : ℕ) → 0 ≤ n
none_at_most n = omega arith

here_at_most : (s : Scene) (h : Head) (a : Tree) → (if is_large_equality s h a then 1 else 0) ≤ weight h
here_at_most s Eq a = at_most_one (is_large_equality s Eq a)
here_at_most s h a = none_at_most (weight h)

pub equalities_at_most : (s : Scene) (t : Tree) → large_equalities s t ≤ size t
equalities_at_most s Empty = omega (arith, equalities_empty s)
equalities_at_most s (Node h a b) = omega (arith, equalities_node s h a b, here_at_most s h a, equalities_at_most s a, equalities_at_most s b, size_open (Node h a b))

-- a tree with terms for names
module _ (xs : List ℕ) (ms : Tree) where
  put_empty : with_given xs ms Empty ≡ Empty
  unfolding with_given
  put_empty = refl

  put_node : (h : Head) (a b : Tree) → with_given xs ms (Node h a b) ≡ or_node (given_for xs ms h) h (with_given xs ms a) (with_given xs ms b)
  unfolding with_given
  put_node h a b = refl

  pub put_end : (t : Tree) → t ≡ Empty → with_given xs ms t ≡ Empty
  put_end t e = ap (with_given xs ms) e ∙ put_empty

  module _ (t : Tree) (h : Head) (a b : Tree) (e : t ≡ Node h a b) where
    pub put_here : (m : Tree) → Some m ≡ given_for xs ms h → with_given xs ms t ≡ m
    put_here m f = ap (with_given xs ms) e ∙ (put_node h a b ∙ ap (λ o. or_node o h (with_given xs ms a) (with_given xs ms b)) (sym f))

    pub put_below : None ≡ given_for xs ms h → with_given xs ms t ≡ Node h (with_given xs ms a) (with_given xs ms b)
    put_below f = ap (with_given xs ms) e ∙ (put_node h a b ∙ ap (λ o. or_node o h (with_given xs ms a) (with_given xs ms b)) (sym f))

-- the sort of a term is told by its head

sort_by_head : (s : Scene) (h : Head) (a b : Tree) → sort_by (signature_in s) nothing_above h a ≡ sort_by (signature_in s) nothing_above h b
sort_by_head s (Read x) a b = refl
sort_by_head s h a b = refl

pub sort_put : (s : Scene) (xs : List ℕ) (ms t : Tree) (h : Head) (a b : Tree) → t ≡ Node h a b → None ≡ given_for xs ms h
    → sort_of (signature_in s) nothing_above t ≡ sort_of (signature_in s) nothing_above (with_given xs ms t)
sort_put s xs ms t h a b e f =
    ap (sort_of (signature_in s) nothing_above) e
    ∙ (sort_by_head s h a (with_given xs ms a)
    ∙ ap (sort_of (signature_in s) nothing_above) (sym (put_below xs ms t h a b e f)))

pub no_equality : (s : Scene) (h : Head) (m : Tree) → (h ≡ Eq → ⊥) → false ≡ is_large_equality s h m
no_equality s Eq m n = absurd (n refl)
no_equality s h m n = refl

pub same_equality : (s : Scene) (h : Head) (m n : Tree) → sort_of (signature_in s) nothing_above m ≡ sort_of (signature_in s) nothing_above n → is_large_equality s h m ≡ is_large_equality s h n
same_equality s Eq m n e = ap (is_of_large s) e
same_equality s h m n e = refl

-- comparisons of numbers, the second of which are below the greatest one

capped_below : (most a b : ℕ) → b < most → nat_lt (min a most) b ≡ nat_lt a b
capped_below most a b l = ltb_from_iff (λ t. let k : min a most < b = ltb-true (min a most) b t in omega arith, λ k. lt-ltb (min a most) b (omega arith))

capped_same : (most a b : ℕ) → b < most → (min a most == b) ≡ (a == b)
capped_same most a b l = go (a == b) refl
  where
    go : (c : Bool) → (a == b) ≡ c → (min a most == b) ≡ c
    go true e = let f : a ≡ b = eqb-true a b e in eq-eqb (min a most) b (omega arith)
    go false e = ne_eqb (min a most) b (λ k. both_ways (a == b) e (eq-eqb a b (omega arith)))

pub less_capped : (most e n x y f m p q : ℕ) → x ≡ min e most → y ≡ min n most → p ≡ min f most → q ≡ min m most → f < most → m < most
    → (nat_lt x p || (x == p && nat_lt y q)) ≡ (nat_lt e f || (e == f && nat_lt n m))
less_capped most e n x y f m p q i j k l g h =
    let first : nat_lt x p ≡ nat_lt e f = ap₂ nat_lt i (let s : p ≡ f = omega arith in s) ∙ capped_below most e f g in
    let same : (x == p) ≡ (e == f) = ap₂ (λ (u v : ℕ). u == v) i (let s : p ≡ f = omega arith in s) ∙ capped_same most e f g in
    let second : nat_lt y q ≡ nat_lt n m = ap₂ nat_lt j (let s : q ≡ m = omega arith in s) ∙ capped_below most n m h in
    ap₂ (λ (b c : Bool). b || c) first (ap₂ (λ (b c : Bool). b && c) same second)
