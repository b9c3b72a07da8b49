-- When each value that a construct reads has been assigned. Blanchet, TDSC 2008, section 2.
use Rattle.std.specs.Prelude.{◌≡◌, ℕ, true, List, [], Option, Some, None, ◌⊎◌, is_some}
use Rattle.cv_syntax_trees.specs.declared.head.Head.TheVariants.{Leaf, Read, Apply, Let, If, Event, Out, Find, Call}
use Rattle.cv_syntax_trees.specs.Tree.{Tree, Empty, Node, first, second}
use Rattle.cv_meaning.specs.Interpretation.{Setting}
use Rattle.cv_meaning.specs.Memory.{Store, Indices, Local, tuple}
use Rattle.cv_meaning.specs.Terms.{found_in, values}
use Rattle.cv_meaning.specs.Binders.{fits, bound_to}
use Rattle.cv_meaning.specs.Candidates.{is_assigned, are_assigned}
use Rattle.cv_meaning.specs.Serving.{Visit}

-- what one store has, the other has
abbrev pub IsKept : Store → Store → Type 0
IsKept m n = (x : ℕ) (u : List ℕ) (v : ℕ) → m x u ≡ Some v → n x u ≡ Some v

-- a current index, a constant or an assigned variable
abbrev pub LeafAssigned : Setting → Store → ℕ → Option ℕ → Type 0
LeafAssigned g m x (Some v) = Unit {0}
LeafAssigned g m x None = (g.is_constant x ≡ true) ⊎ (is_some (m x []) ≡ true)

-- each value that a term reads is assigned
abbrev mutual
  pub TermAssigned : Setting → Indices → Store → Tree → Type 0
  TermAssigned g at m Empty = Unit {0}
  TermAssigned g at m (Node (Leaf x) a b) = LeafAssigned g m x (found_in at x)
  TermAssigned g at m (Node (Read x) a b) = (is_some (m x (values g at m a)) ≡ true) × TermsAssigned g at m a
  TermAssigned g at m (Node (Apply f) a b) = TermsAssigned g at m a
  TermAssigned g at m (Node h a b) = TermAssigned g at m a × TermAssigned g at m b

  -- of a list of terms
  pub TermsAssigned : Setting → Indices → Store → Tree → Type 0
  TermsAssigned g at m Empty = Unit {0}
  TermsAssigned g at m (Node h a b) = TermAssigned g at m a × TermsAssigned g at m b

-- the index terms of a cell of a `defined` list; the cell itself is only tested
abbrev pub CellAssigned : Setting → Indices → Store → Tree → Type 0
CellAssigned g at n (Node (Read x) a b) = TermsAssigned g at n a
CellAssigned g at n t = Unit {0}

-- of a `defined` list, up to its first cell that is not assigned
abbrev pub CellsAssigned : Setting → Indices → Store → Store → Tree → Type 0
CellsAssigned g at m n Empty = Unit {0}
CellsAssigned g at m n (Node h c more) = CellAssigned g at n c × (is_assigned g at m n c ≡ true → CellsAssigned g at m n more)

-- of a branch's list, and of its condition where the list is assigned; n is the store with the index variables
abbrev pub GuardsAssigned : Setting → Indices → Store → Store → Tree → Type 0
GuardsAssigned g at m n rest = CellsAssigned g at m n (first rest) × (are_assigned g at m n (first rest) ≡ true → TermAssigned g at n (first (second rest)))

-- at each tuple of a branch, whose values its index variables have
abbrev pub BranchAssigned : Setting → Indices → Store → Tree → Type 0
BranchAssigned g at m branch =
    (u : List ℕ) → fits g.interpretation.parameter_value (first branch) u ≡ true →
    GuardsAssigned g at m (bound_to m (tuple at) (first branch) u) (second branch)

abbrev pub BranchesAssigned : Setting → Indices → Store → Tree → Type 0
BranchesAssigned g at m Empty = Unit {0}
BranchesAssigned g at m (Node h branch more) = BranchAssigned g at m branch × BranchesAssigned g at m more

-- each value that a construct reads
abbrev pub ReadsAssigned : Setting → Tree → Local → Type 0
ReadsAssigned g (Node (Let x T) a b) s = TermAssigned g s.indices s.memory.store a
ReadsAssigned g (Node If a b) s = TermAssigned g s.indices s.memory.store a
ReadsAssigned g (Node (Event e) a b) s = TermsAssigned g s.indices s.memory.store a
ReadsAssigned g (Node (Call x l) a b) s = TermsAssigned g s.indices s.memory.store a
ReadsAssigned g (Node (Out c) a b) s = TermsAssigned g s.indices s.memory.store (second a)
ReadsAssigned g (Node (Find l) a b) s = BranchesAssigned g s.indices s.memory.store a
ReadsAssigned g t s = Unit {0}

abbrev pub VisitReadsAssigned : Setting → Visit → Type 0
VisitReadsAssigned g v = ReadsAssigned g v.tree v.before
