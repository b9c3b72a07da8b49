-- Which branches of a find are candidates with which tuples, and in which order, as sentences.
-- Blanchet, TDSC 2008, section 2, for when a branch is a candidate; the order is this profile's own.
use Rattle.std.specs.Prelude.{◌≡◌, ℕ, zero, suc, ◌<◌, ◌⊎◌, List, [], ◌∷◌, Bool, false, Option, Some, None, IsSome, count_by}
use Rattle.cv_syntax_trees.specs.declared.head.Head.TheVariants.{Leaf, Read, Binder}
use Rattle.cv_syntax_trees.specs.Tree.{Tree, Empty, Node, first, second}
use Rattle.cv_meaning.specs.Interpretation.{Setting}
use Rattle.cv_meaning.specs.Memory.{Store, Indices, tuple}
use Rattle.cv_meaning.specs.Terms.{value, values}
use Rattle.cv_meaning.specs.Binders.{bound_to}
use Rattle.cv_meaning.specs.Candidates.{Candidate, below, chosen}

-- the branch with a number
abbrev pub branch_at : Tree → ℕ → Option Tree
branch_at Empty k = None
branch_at (Node h branch more) zero = Some branch
branch_at (Node h branch more) (suc k) = branch_at more k

-- a number below its parameter for each index variable, and no other
abbrev pub AreIndices : Setting → Tree → List ℕ → Type 0
AreIndices g Empty [] = Unit {0}
AreIndices g (Node (Binder i n) a b) (v ∷ vs) = (v < g.interpretation.parameter_value n) × AreIndices g b vs
AreIndices g _ _ = ⊥

-- what a read names is assigned in the first store; its indices are read in the second
abbrev pub IsAssigned : Setting → Indices → Store → Store → Tree → Type 0
IsAssigned g at m n (Node (Leaf x) a b) = IsSome (m x [])
IsAssigned g at m n (Node (Read x) a b) = IsSome (m x (values g at n a))
IsAssigned g at m n _ = ⊥

-- the same for each of a list of reads
abbrev pub AreAssigned : Setting → Indices → Store → Store → Tree → Type 0
AreAssigned g at m n Empty = Unit {0}
AreAssigned g at m n (Node h a b) = IsAssigned g at m n a × AreAssigned g at m n b

-- a store in which the branch's index variables are assigned
abbrev pub with_indices : Indices → Store → Tree → List ℕ → Store
with_indices at m branch u = bound_to m (tuple at) (first branch) u

-- the tuple is one of the branch's, the cells of its `defined` list are assigned where the find begins,
-- and its condition is true for the tuple
pub record IsCandidate (g : Setting) (at : Indices) (m : Store) (branch : Tree) (u : List ℕ) : Type 0 where
  pub indices : AreIndices g (first branch) u
  pub defined : AreAssigned g at m (with_indices at m branch u) (first (second branch))
  pub condition : value g at (with_indices at m branch u) (first (second (second branch))) ≡ 1

-- some branch of the find has the candidate's number, and is a candidate with its tuple
abbrev pub IsCandidateOf : Setting → Indices → Store → Tree → Candidate → Type 0
IsCandidateOf g at m branches c =
    (branch : Tree) × (branch_at branches c.branch ≡ Some branch) × IsCandidate g at m branch c.tuple

-- tuples in the order of lists: a shorter one before those that extend it
abbrev pub IsEarlier : List ℕ → List ℕ → Type 0
IsEarlier (x ∷ xs) (y ∷ ys) = (x < y) ⊎ ((x ≡ y) × IsEarlier xs ys)
IsEarlier [] (y ∷ ys) = Unit {0}
IsEarlier _ [] = ⊥

-- candidates by tuple, and then by the number of the branch
abbrev pub IsBefore : Candidate → Candidate → Type 0
IsBefore c d = IsEarlier c.tuple d.tuple ⊎ ((c.tuple ≡ d.tuple) × (c.branch < d.branch))

-- the choice among candidates

abbrev pub passes : (Candidate → Bool) → Option Candidate → Bool
passes p None = false
passes p (Some c) = p c

-- how many values below a number choose a candidate that passes the test
abbrev pub times_chosen : List Candidate → (Candidate → Bool) → ℕ → ℕ
times_chosen cs p n = count_by (λ v. passes p (chosen cs v)) (below n)
