-- A count that lists no alternative, and what a walk over a right side counts.
use Rattle.std.proofs.Common.{◌≡◌, ℕ, ◌+◌, ◌*◌, ◌<◌, ◌≤◌, min, true, false, List, [], ◌∷◌, ◌++◌, map, length, length-append, refl, ap, sym, ◌∙◌, arith, subst, Option, None}
use Rattle.std.proofs.Math.Nat.{mul-le-mul_left, mul-le-mul_right, one-le-mul, mul_assoc}
use Rattle.std.proofs.lemmas.List.{length-map}
use Rattle.std.proofs.lemmas.Bool.{leb-true, le-leb, both_ways}
use Rattle.cv_pool.specs.declared.node.NodeId.{NodeId}
use Rattle.cv_pool.specs.KindTree.{KindTree}
use Rattle.cv_syntax_trees.specs.declared.head.Head.{Head}
use Rattle.cv_syntax_trees.specs.declared.head.Head.TheVariants.{Cons, SomeOf}
use Rattle.cv_syntax_trees.specs.Tree.{Tree, Empty, Node}
use Rattle.cv_syntax.specs.PoolTrees.{tree_at}
use Rattle.cv_syntax.proofs.Trees.{empty_at}
use Rattle.cv_meaning.specs.Correspondences.{Atom, alternatives_from, atom_count, each_with}
use Rattle.cv_query_form.specs.Held.{apart_after, each_after, has_parts}
use Rattle.cv_query_form.specs.Rules.{HasFewAlternatives}
use Rattle.cv_query_form.specs.Tests.{count_of, has_few_alternatives}

-- the alternatives are counted

length-each_with : (xs ys : List (List (ℕ × Atom))) → length (each_with xs ys) ≡ length xs * length ys
length-each_with [] ys = omega arith
length-each_with (x ∷ xs) ys = omega (arith, length-append (map (λ y. x ++ y) ys) (each_with xs ys), length-map ys (λ (y : List (ℕ × Atom)). x ++ y), length-each_with xs ys)

pub counted : (n : ℕ) (t : Tree) → length (alternatives_from n t) ≡ count_of t
unfolding count_of
counted n Empty = refl
counted n (Node Cons a b) =
    length-each_with (alternatives_from n a) (alternatives_from (n + atom_count a) b)
    ∙ (ap (λ k. k * length (alternatives_from (n + atom_count a) b)) (counted n a) ∙ ap (λ k. count_of a * k) (counted (n + atom_count a) b))
counted n (Node SomeOf a b) = omega (arith, length-append (alternatives_from n a) (alternatives_from (n + atom_count a) b), counted n a, counted (n + atom_count a) b)
counted n (Node h a b) = refl

pub few_found : (t : Tree) → has_few_alternatives t ≡ true → HasFewAlternatives t
few_found t e = let few = leb-true (count_of t) 64 e in omega (arith, counted 1 t, few)

pub few_tested : (t : Tree) → HasFewAlternatives t → has_few_alternatives t ≡ true
few_tested t few = le-leb (count_of t) 64 (omega (arith, counted 1 t, few))

-- the parts of a right side

pub counts_some : (t : Tree) → 1 ≤ count_of t
unfolding count_of
counts_some Empty = omega arith
counts_some (Node Cons a b) = one-le-mul (counts_some a) (counts_some b)
counts_some (Node SomeOf a b) = omega (arith, counts_some a)
counts_some (Node h a b) = omega arith

pub count_end : (trees : List KindTree) (at : Option NodeId) → at ≡ None → count_of (tree_at trees at) ≡ 1
unfolding count_of
count_end trees at e = ap count_of (empty_at trees at e)

pub count_atom : (t : Tree) (h : Head) (a b : Tree) → t ≡ Node h a b → has_parts h ≡ false → count_of t ≡ 1
unfolding count_of
count_atom t h a b e n = ap count_of e ∙ step h a b n
  where
    step : (h : Head) (a b : Tree) → has_parts h ≡ false → count_of (Node h a b) ≡ 1
    step Cons a b n = absurd (both_ways _ n refl)
    step SomeOf a b n = absurd (both_ways _ n refl)
    step h a b n = refl

-- a part more, while there are few

is_exact : (each first found : ℕ) → 1 ≤ each → found ≡ min first 65 → each * found ≤ 64 → found ≡ first
is_exact each first found p f l = let m : 1 * found ≤ each * found = mul-le-mul_right found p in omega arith

pub fits_more : (apart each : ℕ) (t : Tree) (h : Head) (a b : Tree) (found : ℕ) → t ≡ Node h a b → has_parts h ≡ true → 1 ≤ each → found ≡ min (count_of a) 65 → apart_after h apart (each * found) + each_after h each (each * found) ≤ 64 → apart_after h apart (each * found) + each_after h each (each * found) * count_of b ≡ apart + each * count_of t
unfolding count_of
fits_more apart each t h a b found e p o f l = step h p l ∙ sym (ap (λ u. apart + each * count_of u) e)
  where
    step : (h : Head) → has_parts h ≡ true → apart_after h apart (each * found) + each_after h each (each * found) ≤ 64 → apart_after h apart (each * found) + each_after h each (each * found) * count_of b ≡ apart + each * count_of (Node h a b)
    step Cons p l = let k = is_exact each (count_of a) found o f (omega arith) in ap (λ c. apart + each * c * count_of b) k ∙ ap (λ c. apart + c) (mul_assoc each (count_of a) (count_of b))
    step SomeOf p l = let k = is_exact each (count_of a) found o f (omega arith) in ap (λ c. apart + each * c + each * count_of b) k ∙ omega arith
    step h p l = absurd (both_ways _ refl p)

pub is_too_many : (apart each : ℕ) (t : Tree) (h : Head) (a b : Tree) (found : ℕ) → t ≡ Node h a b → has_parts h ≡ true → 1 ≤ each → found ≡ min (count_of a) 65 → 64 < apart_after h apart (each * found) + each_after h each (each * found) → 64 < apart + each * count_of t
unfolding count_of
is_too_many apart each t h a b found e p o f l = subst (λ u. 64 < apart + each * count_of u) (sym e) (step h p l)
  where
    less : each * found ≤ each * count_of a
    less = mul-le-mul_left each (omega arith)

    step : (h : Head) → has_parts h ≡ true → 64 < apart_after h apart (each * found) + each_after h each (each * found) → 64 < apart + each * count_of (Node h a b)
    step Cons p l =
        let m : count_of a * 1 ≤ count_of a * count_of b = mul-le-mul_left (count_of a) (counts_some b) in
        let n : each * (count_of a * 1) ≤ each * (count_of a * count_of b) = mul-le-mul_left each m in
        omega (arith, less)
    step SomeOf p l = let n : each * 1 ≤ each * count_of b = mul-le-mul_left each (counts_some b) in omega (arith, less)
    step h p l = absurd (both_ways _ refl p)

pub each_some : (each : ℕ) (h : Head) (first found : ℕ) → 1 ≤ each → 1 ≤ first → found ≡ min first 65 → 1 ≤ each_after h each (each * found)
each_some each SomeOf first found o f e = o
each_some each h first found o f e = one-le-mul o (omega arith)
