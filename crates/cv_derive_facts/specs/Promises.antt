-- What stands above a visited place holds there. This profile's own; Blanchet, TDSC 2008, for facts at a place of a game.
use Rattle.std.specs.Prelude.{◌≡◌, ◌≤◌, ◌<◌, ◌+◌, ℕ, true, List, [], ◌∷◌, Some}
use Rattle.std.specs.List.{AllByRecursion}
use Rattle.cv_syntax_trees.specs.declared.head.Head.TheVariants.{Par, Branch, Find}
use Rattle.cv_syntax.specs.Layouts.{IsSyntax}
use Rattle.cv_syntax_trees.specs.Tree.{Tree, Empty, Node, first, first_place, second, second_place, size}
use Rattle.cv_meaning.specs.Interpretation.{Setting}
use Rattle.cv_meaning.specs.Binders.{bound_to, fits}
use Rattle.cv_meaning.specs.Memory.{Memory, Indices, Local, Store, tuple}
use Rattle.cv_meaning.specs.Terms.{value}
use Rattle.cv_meaning.specs.Candidates.{are_assigned, is_assigned, is_candidate}
use Rattle.cv_meaning.specs.Serving.{Visit}
use Rattle.cv_scope_rules.specs.Context.{Context}
use Rattle.cv_scope_runs.specs.Promises.{AreIndicesOf, GrowsTo}
use Rattle.cv_scope_rules.specs.Above.{stands_at}
use Rattle.cv_scope_rules.specs.Behind.{in_body, in_condition, in_list, sites_of}

-- the indices are those of the replications, the cells that are directly defined are assigned, and the facts true
pub record StandsIn (g : Setting) (Γ : Context) (at : Indices) (x : Memory) : Type 0 where
  pub indices : AreIndicesOf g at Γ.replications
  pub cells : AllByRecursion (λ c. is_assigned g at x.store x.store c ≡ true) Γ.cells
  pub facts : AllByRecursion (λ f. value g at x.store f ≡ 1) Γ.facts

-- a place of the terms of a construct itself, which are its first child: a `find` and a parallel composition have none
abbrev pub IsOwnTerm : ℕ → Tree → ℕ → Type 0
IsOwnTerm p Empty q = ⊥
IsOwnTerm p (Node (Find l) a b) q = ⊥
IsOwnTerm p (Node Par a b) q = ⊥
IsOwnTerm p (Node h a b) q = (first_place p h ≤ q) × (q < second_place p h a)

-- what stands at the construct stands at those places
abbrev pub OwnTermsStand : Tree → Context → ℕ → Tree → Type 0
OwnTermsStand game Γ p t = (q : ℕ) → IsOwnTerm p t q → stands_at game q ≡ Some Γ

-- then and later, at a visited place and at the places of the construct's own terms
abbrev pub PlaceStands : Setting → Tree → Visit → Type 0
PlaceStands g game v =
    IsSyntax v.tree → (Γ : Context) × (stands_at game v.place ≡ Some Γ) × OwnTermsStand game Γ v.place v.tree × ((y : Memory) → GrowsTo v.before.memory y → StandsIn g Γ v.before.indices y)

-- these stand in the branch behind its indices, at the places of its list and of its condition, and at that of its body
pub record BranchPlaces (game : Tree) (Γ : Context) (p : ℕ) (us rest : Tree) : Type 0 where
  pub list : (q : ℕ) → q < size (first rest) → stands_at game (p + q) ≡ Some (in_list Γ us)
  pub condition : (q : ℕ) → q < size (first (second rest)) → stands_at game (p + size (first rest) + q) ≡ Some (in_condition Γ us (first rest))
  pub body : stands_at game (p + size (first rest) + size (first (second rest))) ≡ Some (in_body Γ us (first rest) (first (second rest)))

abbrev pub BranchesPlaces : Tree → Context → ℕ → Tree → Type 0
BranchesPlaces game Γ p Empty = Unit {0}
BranchesPlaces game Γ p (Node h branch more) =
    BranchPlaces game Γ (second_place (first_place p h) Branch (first branch)) (first branch) (second branch) × BranchesPlaces game Γ (second_place p h branch) more

abbrev pub FindPlaces : Tree → Context → ℕ → Tree → Type 0
FindPlaces game Γ p (Node (Find l) a b) = BranchesPlaces game Γ (first_place p (Find l)) a
FindPlaces game Γ p t = Unit {0}

-- with a tuple of a branch in the second store: what stands in the list is so there, in the condition where the cells of the
-- list are assigned, and in the body where the branch is a candidate, taken or not
pub record BranchStands (g : Setting) (Γ : Context) (at : Indices) (x : Memory) (n : Store) (us rest : Tree) : Type 0 where
  pub list : StandsIn g (in_list Γ us) at (record x { store = n })
  pub condition : are_assigned g at x.store n (first rest) ≡ true → StandsIn g (in_condition Γ us (first rest)) at (record x { store = n })
  pub body : is_candidate g at x.store n rest ≡ true → StandsIn g (in_body Γ us (first rest) (first (second rest))) at (record x { store = n })

abbrev pub BranchesStand : Setting → Context → Indices → Memory → Tree → Type 0
BranchesStand g Γ at x Empty = Unit {0}
BranchesStand g Γ at x (Node h branch more) =
    ((u : List ℕ) → fits g.interpretation.parameter_value (first branch) u ≡ true → BranchStands g Γ at x (bound_to x.store (tuple at) (first branch) u) (first branch) (second branch))
    × BranchesStand g Γ at x more

abbrev pub FindStands : Setting → Context → Local → Tree → Type 0
FindStands g Γ s (Node (Find l) a b) = BranchesStand g Γ s.indices s.memory a
FindStands g Γ s t = Unit {0}

-- at each tuple of each branch of a visited `find`, and at the branch's places
abbrev pub CandidatesStand : Setting → Tree → Visit → Type 0
CandidatesStand g game v = IsSyntax v.tree → (Γ : Context) × (stands_at game v.place ≡ Some Γ) × FindPlaces game Γ v.place v.tree × FindStands g Γ v.before v.tree

-- Of a variable with one definition, what stands behind it holds at the tuple of each assigned cell, then and later.
abbrev pub SitesStand : Setting → Tree → Memory → Type 0
SitesStand g game x =
    (y p : ℕ) (Γ : Context) → sites_of game y ≡ (p, Γ) ∷ [] → (u : List ℕ) (v : ℕ) → x.store y u ≡ Some v →
    (at : Indices) × (tuple at ≡ u) × ((z : Memory) → GrowsTo x z → StandsIn g Γ at z)

-- so it is before each visit
abbrev pub VisitSitesStand : Setting → Tree → Visit → Type 0
VisitSitesStand g game v = SitesStand g game v.before.memory
