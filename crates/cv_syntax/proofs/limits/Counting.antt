-- How many nodes a list of parts makes, and the tree that it makes.
use Rattle.std.proofs.Common.{◌≡◌, ℕ, Bool, true, false, nat_lt, Ok, ◌+◌, ◌≤◌, ◌<◌, List, [], ◌∷◌, ◌++◌, length, refl, ap, sym, ◌∙◌, append-nil, arith, map, Option, Some}
use Rattle.std.proofs.lemmas.Bool.Decides.{nat_tests}
use Rattle.std.specs.Prelude.{IsErrOf, reverse, slice_get}
use Rattle.cv_pool.specs.KindTree.{KindTree}
use Rattle.cv_pool.specs.declared.node.NodeId.{NodeId}
use Rattle.cv_pool.specs.declared.pool.PoolError.TheVariants as pool
use Rattle.cv_syntax_trees.specs.declared.head.Head.{Head}
use Rattle.cv_syntax.specs.declared.make.Make.{Make}
use Rattle.cv_syntax.specs.declared.make.Make.TheVariants.{Nothing, Over}
use Rattle.cv_syntax.specs.Planting.{overs}
use Rattle.cv_syntax.specs.Postorder.{joined, made, made_postorder, postorder}
use Rattle.cv_syntax_trees.specs.Tree.{Tree, Empty, Node}
use Rattle.cv_syntax.specs.PoolTrees.{tree_at}
use Rattle.cv_syntax.specs.limits.Limits.{nodes_of}
use Rattle.cv_syntax.proofs.listing.Lists.{overs_append}

pub few_overs : (ms : List Make) → overs ms ≤ length ms
few_overs [] = omega arith
few_overs (Nothing ∷ ms) = omega (arith, few_overs ms)
few_overs (Over h ∷ ms) = omega (arith, few_overs ms)

pub ruleset counting = (few_overs)

nodes_Empty : nodes_of Empty ≡ 0
unfolding postorder
nodes_Empty = refl

nodes_Node : (h : Head) (a b : Tree) → nodes_of (Node h a b) ≡ nodes_of a + nodes_of b + 1
unfolding postorder
nodes_Node h a b = omega (arith, overs_append (postorder a) (postorder b ++ Over h ∷ []), overs_append (postorder b) (Over h ∷ []))

-- how many nodes trees have
abbrev total : List Tree → ℕ
total [] = 0
total (t ∷ ts) = nodes_of t + total ts

total_joined : (h : Head) (ts : List Tree) → total (joined h ts) ≡ total ts + 1
total_joined h (b ∷ (a ∷ ts)) = omega (arith, nodes_Node h a b)
total_joined h (b ∷ []) = omega (arith, nodes_Node h Empty b, nodes_Empty)
total_joined h [] = omega (arith, nodes_Node h Empty Empty, nodes_Empty)

total_made : (ts : List Tree) (ms : List Make) → total (made ts ms) ≡ total ts + overs ms
unfolding made
total_made ts [] = omega arith
total_made ts (Nothing ∷ ms) = omega (arith, total_made (Empty ∷ ts) ms, nodes_Empty)
total_made ts (Over h ∷ ms) = omega (arith, total_made (joined h ts) ms, total_joined h ts)

-- the parts of one tree make its nodes
pub nodes_made : (ms : List Make) (t : Tree) → made [] ms ≡ t ∷ [] → overs ms ≡ nodes_of t
nodes_made ms t e = let all = total_made [] ms in let one = ap total e in omega (arith, all, one)

-- the parts of a tree make it alone
pub one_made : (ms : List Make) (t : Tree) → ms ≡ postorder t → made [] ms ≡ t ∷ []
unfolding made
one_made ms t e = ap (made []) (e ∙ sym (append-nil (postorder t))) ∙ made_postorder t [] []

-- the one tree that is made
pub only : (trees : List KindTree) (ids : List (Option NodeId)) (o : Option NodeId) (ts : List Tree) (t : Tree) → map (tree_at trees) ids ≡ reverse ts → ts ≡ t ∷ [] → Some o ≡ slice_get ids 0 → tree_at trees o ≡ t
only trees [] o ts t e g f = absurd (cc)
only trees (i ∷ ids) o ts t e g f = let same : o ≡ i = cc in let all : tree_at trees i ∷ map (tree_at trees) ids ≡ t ∷ [] = e ∙ ap reverse g in let first : tree_at trees i ≡ t = cc in ap (tree_at trees) same ∙ first

-- the pool has room
pub roomy : {A : Type 0} (limit need asked : ℕ) (r : A) → (limit < need → IsErrOf {T = A} (Ok r) (pool.Full asked)) → need ≤ limit
roomy limit need asked r h = by_test (nat_lt limit need) refl
  where
    by_test : (b : Bool) → nat_lt limit need ≡ b → need ≤ limit
    by_test true i = absurd (let l : limit < need = grind (arith, nat_tests) in let j = h l in cc)
    by_test false i = grind (arith, nat_tests)
