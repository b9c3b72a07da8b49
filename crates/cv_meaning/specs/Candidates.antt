-- The candidates of a find, and the choice among them. Blanchet, TDSC 2008, section 2, for when a
-- branch is a candidate. The order and the choice by one cell are this profile's own.
use Rattle.std.specs.Prelude.{ℕ, zero, suc, ◌%◌, max, Bool, true, false, if◌then◌else◌, List, [], ◌∷◌, ◌++◌, map, length, Option, None, is_some, slice_get, flat_map}
use Rattle.cv_syntax_trees.specs.declared.head.Head.TheVariants.{Leaf, Read}
use Rattle.cv_syntax_trees.specs.Tree.{Tree, Empty, Node, first, second}
use Rattle.cv_meaning.specs.Interpretation.{Setting}
use Rattle.cv_meaning.specs.Memory.{Store, Indices, tuple}
use Rattle.cv_meaning.specs.Terms.{value, values, is_one}
use Rattle.cv_meaning.specs.Binders.{fits, bound_to, binder_count, widest_binder}

-- a branch, by number, with the values of its index variables
pub record Candidate : Type 0 where
  pub branch : ℕ
  pub tuple : List ℕ

-- the numbers below a number
abbrev pub below : ℕ → List ℕ
below zero = []
below (suc n) = below n ++ n ∷ []

-- all tuples of at most this many numbers, each below the bound, in the order of lists
unfoldable pub tuples_up_to : ℕ → ℕ → List (List ℕ)
tuples_up_to zero n = [] ∷ []
tuples_up_to (suc d) n = [] ∷ flat_map (λ v. map (λ u. v ∷ u) (tuples_up_to d n)) (below n)

-- whether what a read names is assigned in a store; its indices are read in another store
abbrev pub is_assigned : Setting → Indices → Store → Store → Tree → Bool
is_assigned g at m n (Node (Leaf x) a b) = is_some (m x [])
is_assigned g at m n (Node (Read x) a b) = is_some (m x (values g at n a))
is_assigned g at m n _ = false

-- the same for a list of reads, up to the first that is not assigned
abbrev pub are_assigned : Setting → Indices → Store → Store → Tree → Bool
are_assigned g at m n Empty = true
are_assigned g at m n (Node h a b) = elim (is_assigned g at m n a) [ true ↦ are_assigned g at m n b | false ↦ false ]

-- whether a branch, from its `defined` list on, is a candidate: n is the store m with the branch's
-- index variables
abbrev pub is_candidate : Setting → Indices → Store → Store → Tree → Bool
is_candidate g at m n rest = elim (are_assigned g at m n (first rest)) [ true ↦ is_one (value g at n (first (second rest))) | false ↦ false ]

-- the branch with this tuple, where it is a candidate
abbrev pub candidate : Setting → Indices → Store → List ℕ → ℕ → Tree → List Candidate
candidate g at m u k branch =
    elim (fits g.interpretation.parameter_value (first branch) u) [
      | true ↦ (if is_candidate g at m (bound_to m (tuple at) (first branch) u) (second branch) then record { branch = k; tuple = u } ∷ [] else [])
      | false ↦ []
    ]

-- the candidates with this tuple, by branch
unfoldable pub candidates_at : Setting → Indices → Store → List ℕ → ℕ → Tree → List Candidate
candidates_at g at m u k Empty = []
candidates_at g at m u k (Node h branch more) = candidate g at m u k branch ++ candidates_at g at m u (suc k) more

abbrev pub most_indices : Tree → ℕ
most_indices Empty = 0
most_indices (Node h branch more) = max (binder_count (first branch)) (most_indices more)

abbrev pub widest : (ℕ → ℕ) → Tree → ℕ
widest size Empty = 0
widest size (Node h branch more) = max (widest_binder size (first branch)) (widest size more)

-- all candidates, by tuple and then by branch
unfoldable pub candidates : Setting → Indices → Store → Tree → List Candidate
candidates g at m branches = flat_map (λ u. candidates_at g at m u 0 branches) (tuples_up_to (most_indices branches) (widest g.interpretation.parameter_value branches))

-- the candidate that a value of the find's cell chooses
unfoldable pub chosen : List Candidate → ℕ → Option Candidate
chosen [] v = None
chosen (c ∷ cs) v = slice_get (c ∷ cs) (v % length (c ∷ cs))
