-- What stands above a node holds: its replications, cells, facts and events. This profile's own.
use Rattle.std.specs.Prelude.{◌≡◌, ℕ, ◌<◌, ◌⊎◌, true, if◌then◌else◌, List, [], ◌∷◌, ◌++◌, map, Some}
use Rattle.std.specs.List.{AllByRecursion}
use Rattle.cv_syntax_trees.specs.declared.head.Head.{Head}
use Rattle.cv_syntax_trees.specs.declared.head.Head.TheVariants.{Branch, Cons, Find}
use Rattle.cv_syntax.specs.Layouts.{IsSyntax}
use Rattle.cv_syntax_trees.specs.Tree.{Tree, Empty, Node, first, second, first_place, second_place}
use Rattle.cv_meaning.specs.Interpretation.{Setting}
use Rattle.cv_meaning.specs.Memory.{Memory, Store, Indices, Happened, Local, tuple}
use Rattle.cv_meaning.specs.Terms.{value, values}
use Rattle.cv_meaning.specs.Binders.{fits, bound_to}
use Rattle.cv_meaning.specs.Candidates.{is_assigned, are_assigned, is_candidate}
use Rattle.cv_meaning.specs.Inputs.{Input}
use Rattle.cv_meaning.specs.Serving.{Visit}
use Rattle.cv_meaning.specs.Runs.{State}
use Rattle.cv_scope_rules.specs.declared.position.Position.TheVariants as position
use Rattle.cv_scope_rules.specs.declared.position.Position.{Position}
use Rattle.cv_scope_rules.specs.Context.{Context, nothing_known, cells_of, first_position, second_position, first_context, second_context, known_at}
use Rattle.cv_scope_rules.specs.Sites.{Variable}
use Rattle.cv_scope_rules.specs.Made.{made_by}
use Rattle.cv_scope_runs.specs.Reads.{IsKept}

abbrev pub IsRecorded : Happened → List Happened → Type 0
IsRecorded e [] = ⊥
IsRecorded e (d ∷ ds) = (e ≡ d) ⊎ IsRecorded e ds

abbrev pub EventsKept : List Happened → List Happened → Type 0
EventsKept es fs = (e : Happened) → IsRecorded e es → IsRecorded e fs

-- what is assigned stays so, with its value, and what was recorded stays recorded
pub record GrowsTo (x y : Memory) : Type 0 where
  pub store : IsKept x.store y.store
  pub events : EventsKept x.events y.events

abbrev pub VisitsGrow : Visit → Visit → Type 0
VisitsGrow v w = GrowsTo v.before.memory w.before.memory

abbrev pub GrowsToEnd : State → Visit → Type 0
GrowsToEnd st v = GrowsTo v.before.memory st.memory

-- the indices are those of the replications, with values below their parameters
abbrev pub AreIndicesOf : Setting → Indices → List (ℕ × ℕ) → Type 0
AreIndicesOf g [] [] = Unit {0}
AreIndicesOf g (p ∷ ps) (r ∷ rs) = (p.0 ≡ r.0) × (p.1 < g.interpretation.parameter_value r.1) × AreIndicesOf g ps rs
AreIndicesOf g _ _ = ⊥

-- the cells are assigned, the facts true, and the events recorded with the values of their terms
pub record ContextHolds (g : Setting) (Γ : Context) (at : Indices) (x : Memory) : Type 0 where
  pub indices : AreIndicesOf g at Γ.replications
  pub cells : AllByRecursion (λ c. is_assigned g at x.store x.store c ≡ true) Γ.cells
  pub facts : AllByRecursion (λ f. value g at x.store f ≡ 1) Γ.facts
  pub events : AllByRecursion (λ (e : ℕ × Tree). IsRecorded (record { event = e.0; values = values g at x.store e.1 }) x.events) Γ.events

-- then and later
abbrev pub HoldsFrom : Setting → Context → Indices → Memory → Type 0
HoldsFrom g Γ at x = (y : Memory) → GrowsTo x y → ContextHolds g Γ at y

-- what is known at a visited place holds there and later
abbrev pub PlaceHolds : Setting → Tree → Visit → Type 0
PlaceHolds g game v = IsSyntax v.tree → (Γ : Context) × (known_at game v.place ≡ Some Γ) × HoldsFrom g Γ v.before.indices v.before.memory

-- so it is of an available copy of an input
abbrev pub InputHolds : Setting → Tree → Memory → Input → Type 0
InputHolds g game x i = (Γ : Context) × (known_at game i.place ≡ Some Γ) × HoldsFrom g Γ i.indices x

-- what is known in a branch's list, in its condition and in its body
abbrev pub in_list : Context → Tree → Context
in_list Γ us = second_context position.Anywhere Branch us Γ

abbrev pub in_condition : Context → (us cells : Tree) → Context
in_condition Γ us cells = second_context position.Guards Cons cells (in_list Γ us)

abbrev pub in_body : Context → (us cells c : Tree) → Context
in_body Γ us cells c = second_context position.Guarded Cons c (in_condition Γ us cells)

-- at a tuple of a branch, with its index variables in the second store: they have the tuple's values, and what is known
-- holds in its list, in its condition where the list is assigned, and in its body where the branch is a candidate
pub record BranchHolds (g : Setting) (Γ : Context) (at : Indices) (x : Memory) (n : Store) (u : List ℕ) (us rest : Tree) : Type 0 where
  pub own : map (value g at n) (cells_of Γ.replications us) ≡ u
  pub list : ContextHolds g (in_list Γ us) at (record x { store = n })
  pub condition : are_assigned g at x.store n (first rest) ≡ true → ContextHolds g (in_condition Γ us (first rest)) at (record x { store = n })
  pub body : is_candidate g at x.store n rest ≡ true → ContextHolds g (in_body Γ us (first rest) (first (second rest))) at (record x { store = n })

-- at each tuple
abbrev pub TuplesHold : Setting → Context → Indices → Memory → Tree → Type 0
TuplesHold g Γ at x branch =
    (u : List ℕ) → fits g.interpretation.parameter_value (first branch) u ≡ true →
    BranchHolds g Γ at x (bound_to x.store (tuple at) (first branch) u) u (first branch) (second branch)

abbrev pub BranchesHold : Setting → Context → Indices → Memory → Tree → Type 0
BranchesHold g Γ at x Empty = Unit {0}
BranchesHold g Γ at x (Node h branch more) = TuplesHold g Γ at x branch × BranchesHold g Γ at x more

abbrev pub FindHolds : Setting → Context → Local → Tree → Type 0
FindHolds g Γ s (Node (Find l) a b) = BranchesHold g Γ s.indices s.memory a
FindHolds g Γ s t = Unit {0}

-- so it is of the branches of each visited `find`
abbrev pub CandidatesHold : Setting → Tree → Visit → Type 0
CandidatesHold g game v = (Γ : Context) → known_at game v.place ≡ Some Γ → FindHolds g Γ v.before v.tree

-- what is known behind a definition: behind a branch, that is in its body
abbrev pub after_site : Head → Tree → Tree → Context → Context
after_site Branch us (Node h cells (Node k c body)) Γ = in_body Γ us cells c
after_site h a b Γ = second_context position.Anywhere h a Γ

-- the definitions of a variable: their places, and what is known behind each
unfoldable pub definitions_in : ℕ → Position → Context → ℕ → Tree → List (ℕ × Context)
definitions_in x w Γ p Empty = []
definitions_in x w Γ p (Node h a b) =
    (if made_by h a (Variable x) then (p, after_site h a b Γ) ∷ [] else [])
    ++ (definitions_in x (first_position w h) (first_context w h Γ) (first_place p h) a ++ definitions_in x (second_position w h) (second_context w h a Γ) (second_place p h a) b)

abbrev pub definitions_of : Tree → ℕ → List (ℕ × Context)
definitions_of game x = definitions_in x position.Anywhere nothing_known 0 game

abbrev pub IsDefinition : ℕ × Context → List (ℕ × Context) → Type 0
IsDefinition d [] = ⊥
IsDefinition d (e ∷ es) = (d ≡ e) ⊎ IsDefinition d es

-- what is known behind a definition holds at the copy with this tuple, and later
abbrev pub HoldsAt : Setting → Context → List ℕ → Memory → Type 0
HoldsAt g Δ u x = (at : Indices) × (tuple at ≡ u) × HoldsFrom g Δ at x

-- behind some definition of each assigned cell's variable, what is known holds at the cell's tuple
abbrev pub CellsHold : Setting → Tree → Memory → Type 0
CellsHold g game x = (y : ℕ) (u : List ℕ) (v : ℕ) → x.store y u ≡ Some v → (d : ℕ × Context) × IsDefinition d (definitions_of game y) × HoldsAt g d.1 u x

-- so it is before each visit
abbrev pub VisitCellsHold : Setting → Tree → Visit → Type 0
VisitCellsHold g game v = CellsHold g game v.before.memory

-- the same behind the only definition of a variable
abbrev pub OneDefinitionHolds : Setting → Tree → Memory → Type 0
OneDefinitionHolds g game x = (y p : ℕ) (Δ : Context) → definitions_of game y ≡ (p, Δ) ∷ [] → (u : List ℕ) (v : ℕ) → x.store y u ≡ Some v → HoldsAt g Δ u x
