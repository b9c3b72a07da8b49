-- What stands behind the definitions of the cells that are assigned, in the store of a candidate; and stores with values of types.
-- This profile's own.
use Rattle.std.specs.Prelude.{◌≡◌, ℕ, true, List, [], ◌∷◌, Some}
use Rattle.cv_syntax_trees.specs.declared.head.Head.TheVariants.{Branch, Cons, Find}
use Rattle.std.specs.List.{AllByRecursion}
use Rattle.cv_syntax_trees.specs.Declarations.{Declaration}
use Rattle.cv_syntax.specs.Layouts.{IsSyntax}
use Rattle.cv_syntax_trees.specs.Tree.{Tree, Node}
use Rattle.cv_meaning.specs.Interpretation.{Interpretation, Setting}
use Rattle.cv_meaning.specs.Binders.{bound_to, fits}
use Rattle.cv_meaning.specs.Memory.{Memory, Indices, Local, Store, tuple}
use Rattle.cv_meaning.specs.Candidates.{is_assigned, is_candidate}
use Rattle.cv_meaning.specs.Serving.{Visit}
use Rattle.cv_meaning_laws.specs.adequacy.Typed.{IsTypedStore}
use Rattle.cv_scope_rules.specs.Context.{Context}
use Rattle.cv_typing_runs.specs.Games.{context_of}
use Rattle.cv_scope_runs.specs.Promises.{AreIndicesOf}
use Rattle.cv_scope_runs.specs.Reads.{IsKept}
use Rattle.cv_scope_rules.specs.Behind.{sites_of}
use Rattle.cv_derive_facts.specs.Promises.{StandsIn}
use Rattle.cv_scope_rules.specs.Above.{stands_at}

-- Of a variable with one definition, what stands behind it holds at the tuple of each assigned cell, in this memory.
abbrev pub SitesStandNow : Setting → Tree → Memory → Type 0
SitesStandNow g game x =
    (y p : ℕ) (Γ : Context) → sites_of game y ≡ (p, Γ) ∷ [] → (u : List ℕ) (v : ℕ) → x.store y u ≡ Some v →
    (at : Indices) × (tuple at ≡ u) × StandsIn g Γ at x

-- so it is of each branch of the list, with each tuple with which it is a candidate
abbrev pub BranchSitesStand : Setting → Tree → Indices → Memory → Tree → Type 0
BranchSitesStand g game at x (Node Cons (Node Branch us rest) more) =
    ((u : List ℕ) → fits g.interpretation.parameter_value us u ≡ true → is_candidate g at x.store (bound_to x.store (tuple at) us u) rest ≡ true →
    SitesStandNow g game (record x { store = bound_to x.store (tuple at) us u }))
    × BranchSitesStand g game at x more
BranchSitesStand g game at x t = Unit {0}

abbrev pub FindSitesStand : Setting → Tree → Local → Tree → Type 0
FindSitesStand g game s (Node (Find l) a b) = BranchSitesStand g game s.indices s.memory a
FindSitesStand g game s t = Unit {0}

-- at a visited `find`
abbrev pub CandidateSitesStand : Setting → Tree → Visit → Type 0
CandidateSitesStand g game v = FindSitesStand g game v.before v.tree

-- variables have values of their types, at indices below their parameters
abbrev pub HasTypes : List Declaration → Tree → Interpretation → Visit → Type 0
HasTypes ds game i v = IsTypedStore (context_of ds game) i v.before.memory.store

-- so it is with the values of a tuple for the index variables of each branch of a visited `find`
abbrev pub BranchesHaveTypes : List Declaration → Tree → Interpretation → Indices → Memory → Tree → Type 0
BranchesHaveTypes ds game i at x (Node Cons (Node Branch us rest) more) =
    ((u : List ℕ) → fits i.parameter_value us u ≡ true → IsTypedStore (context_of ds game) i (bound_to x.store (tuple at) us u))
    × BranchesHaveTypes ds game i at x more
BranchesHaveTypes ds game i at x t = Unit {0}

abbrev pub FindHasTypes : List Declaration → Tree → Interpretation → Local → Tree → Type 0
FindHasTypes ds game i s (Node (Find l) a b) = BranchesHaveTypes ds game i s.indices s.memory a
FindHasTypes ds game i s t = Unit {0}

abbrev pub CandidatesHaveTypes : List Declaration → Tree → Interpretation → Visit → Type 0
CandidatesHaveTypes ds game i v = FindHasTypes ds game i v.before v.tree

-- the cells are assigned in a store, with the values that their indices have in any later one
abbrev pub CellsBetween : Setting → Indices → Store → List Tree → Type 0
CellsBetween g at m cs = (n : Store) → IsKept m n → AllByRecursion (λ c. is_assigned g at m n c ≡ true) cs

-- so are those that are directly defined at a visited place, and behind the only definition of the variable of an assigned cell,
-- at the cell's tuple
abbrev pub PlaceCellsBetween : Setting → Tree → Visit → Type 0
PlaceCellsBetween g game v = IsSyntax v.tree → (Γ : Context) → stands_at game v.place ≡ Some Γ → CellsBetween g v.before.indices v.before.memory.store Γ.cells

abbrev pub SiteCellsBetween : Setting → Tree → Visit → Type 0
SiteCellsBetween g game v =
    (y p : ℕ) (Γ : Context) → sites_of game y ≡ (p, Γ) ∷ [] → (u : List ℕ) (k : ℕ) → v.before.memory.store y u ≡ Some k →
    (at : Indices) × (tuple at ≡ u) × AreIndicesOf g at Γ.replications × CellsBetween g at v.before.memory.store Γ.cells
