-- The number of a candidate's branch is one of the branches.
use Rattle.std.proofs.Common.{◌≡◌, ℕ, zero, suc, ◌+◌, ◌<◌, ◌≤◌, ◌%◌, Bool, true, false, cond, List, [], ◌∷◌, length, slice_get, Some, subst, arith}
use Rattle.std.specs.List.{AllByRecursion}
use Rattle.cv_syntax_trees.specs.Tree.{Tree, Empty, Node, first, second}
use Rattle.cv_meaning.specs.Interpretation.{Setting}
use Rattle.cv_meaning.specs.Memory.{Store, Indices, tuple}
use Rattle.cv_meaning.specs.Binders.{bound_to, fits}
use Rattle.cv_meaning.specs.Candidates.{Candidate, candidate, candidates, candidates_at, chosen, is_candidate, most_indices, tuples_up_to, widest}
use Rattle.cv_meaning_laws.proofs.Lists.{each_flat_map}
use Rattle.cv_syntax_trees.proofs.lists.Each.{AllByRecursion_append}

abbrev pub branch_count : Tree → ℕ
branch_count Empty = 0
branch_count (Node h a b) = suc (branch_count b)

abbrev IsBelow : ℕ → Candidate → Type 0
IsBelow n c = c.branch < n

one_below : (g : Setting) (at : Indices) (m : Store) (u : List ℕ) (k n : ℕ) (b : Tree) → k < n → AllByRecursion (IsBelow n) (candidate g at m u k b)
one_below g at m u k n b l = go (fits g.interpretation.parameter_value (first b) u) (is_candidate g at m (bound_to m (tuple at) (first b) u) (second b))
  where
    go : (v w : Bool) → AllByRecursion (IsBelow n) (elim v [ true ↦ cond w (record { branch = k; tuple = u } ∷ []) [] | false ↦ [] ])
    go true true = (l, tt)
    go true false = tt
    go false w = tt

at_below : (g : Setting) (at : Indices) (m : Store) (u : List ℕ) (k n : ℕ) (b : Tree) → k + branch_count b ≤ n → AllByRecursion (IsBelow n) (candidates_at g at m u k b)
unfolding candidates_at
at_below g at m u k n Empty l = tt
at_below g at m u k n (Node h b more) l =
    AllByRecursion_append (IsBelow n) (candidate g at m u k b) _ (one_below g at m u k n b (omega arith)) (at_below g at m u (suc k) n more (omega arith))

all_below : (g : Setting) (at : Indices) (m : Store) (b : Tree) → AllByRecursion (IsBelow (branch_count b)) (candidates g at m b)
unfolding candidates
all_below g at m b =
    each_flat_map (IsBelow (branch_count b)) (λ u. candidates_at g at m u 0 b) (tuples_up_to (most_indices b) (widest g.interpretation.parameter_value b)) (λ u. at_below g at m u 0 (branch_count b) b (omega arith))

got : (P : Candidate → Type 0) (cs : List Candidate) (i : ℕ) (c : Candidate) → AllByRecursion P cs → slice_get cs i ≡ Some c → P c
got P [] i c h e = cc
got P (d ∷ cs) zero c h e = let q : d ≡ c = cc in subst P q h.0
got P (d ∷ cs) (suc i) c h e = got P cs i c h.1 e

pub chosen_below : (g : Setting) (at : Indices) (m : Store) (b : Tree) (v : ℕ) (c : Candidate) → chosen (candidates g at m b) v ≡ Some c → c.branch < branch_count b
unfolding chosen
chosen_below g at m b v c e = go (candidates g at m b) (all_below g at m b) e
  where
    go : (cs : List Candidate) → AllByRecursion (IsBelow (branch_count b)) cs → chosen cs v ≡ Some c → c.branch < branch_count b
    go [] h e = cc
    go (d ∷ cs) h e = got (IsBelow (branch_count b)) (d ∷ cs) (v % length (d ∷ cs)) c h e
