-- Queries that a game plainly meets. A query of secrecy is so where the variable has the form that needs no derivation. Of a correspondence each
-- place of the left event contradicts what is known there, or the right events of an alternative stand above it, or above the only definition
-- of a cell that is directly defined, with arguments that are joined to those of the query. With `inj` each right event serves one place,
-- and stands above it under the same replications. Blanchet, CSF 2007 and TDSC 2008, for queries; what is direct is this profile's own.
use Rattle.std.specs.Prelude.{◌≡◌, ◌⊎◌, ℕ, Bool, true, false, not, ◌==◌, List, [], ◌∷◌, ◌++◌, map, filter, Contains, Some}
use Rattle.std.specs.List.{AllByRecursion, list_all, list_any}
use Rattle.cv_syntax_trees.specs.declared.head.Head.TheVariants.{Secret, SecretOnce}
use Rattle.cv_syntax_trees.specs.Tree.{Tree, Empty, Node}
use Rattle.cv_meaning.specs.Correspondences.{Atom, Correspondence, RightEvent, RightTerm, correspondence_of}
use Rattle.cv_scope_rules.specs.Context.{Context}
use Rattle.cv_scope_rules.specs.Tests.{same_replications}
use Rattle.cv_scene.specs.Scenes.{Scene}
use Rattle.cv_scene.specs.Sights.{sight_at}
use Rattle.cv_scene.specs.Terms.{replications_at}
use Rattle.cv_query_certificates.specs.Claims.{at_place, behind_cell}
use Rattle.cv_query_certificates.specs.EventNodes.{arguments_at, is_event_above, only_site}
use Rattle.cv_query_certificates.specs.Forms.{left_places}
use Rattle.cv_query_certificates.specs.Pairs.{is_injective}
use Rattle.cv_query_certificates.specs.Secrets.{AreUnreadChoices, IsSecret}
use Rattle.cv_settling_rules.specs.Conjuncts.{is_among}
use Rattle.cv_direct_rules.specs.Linked.{AreAllJoined, IsLinked, is_contradictory, known_at, links_at}

-- a node of a right event that stands above a place; for one that is marked `inj` it stands under the same replications
pub record IsAbove (s : Scene) (place : ℕ) (inj : Bool) (event : ℕ) (terms wanted : Tree) : Type 0 where
  pub node : ℕ
  pub above : is_event_above s.game event terms node place ≡ true
  pub equal : AreAllJoined (links_at s place) (arguments_at s.game node) wanted
  pub copies : inj ≡ true → same_replications (replications_at s node) (replications_at s place) ≡ true

-- one that stands above the only definition of a cell's variable, where the cell is directly defined at the place; `inj` has none
pub record IsBehindCell (s : Scene) (place : ℕ) (inj : Bool) (event : ℕ) (terms wanted : Tree) : Type 0 where
  pub cell : Tree
  pub here : is_among (sight_at s place).cells cell ≡ true
  pub site : ℕ × Context
  pub only : only_site s.game cell ≡ Some site
  pub node : ℕ
  pub above : is_event_above s.game event terms node site.0 ≡ true
  pub equal : AreAllJoined (links_at s place) (behind_cell cell (Some site) (arguments_at s.game node)) wanted
  pub plain : inj ≡ false

-- an atom at a place, where `put` gives the query's terms
abbrev pub IsMet : Scene → (place : ℕ) → (put : Tree → Tree) → Atom → Type 0
IsMet s p put (RightEvent inj f ms) = IsAbove s p inj f ms (put ms) ⊎ IsBehindCell s p inj f ms (put ms)
IsMet s p put (RightTerm m) = IsLinked s p (put m)

-- the numbers of the atoms that are marked `inj`, and that none of them is one of others

abbrev pub marked : List (ℕ × Atom) → List ℕ
marked atoms = map (λ (c : ℕ × Atom). c.0) (filter (λ (c : ℕ × Atom). is_injective c.1) atoms)

abbrev pub are_apart : (used numbers : List ℕ) → Bool
are_apart used ns = list_all (λ n. not (list_any (λ k. k == n) used)) ns

-- an alternative whose atoms are all met, none of which is marked `inj` and used by another place
pub record IsAlternative (s : Scene) (q : Correspondence) (place : ℕ) (used : List ℕ) (atoms : List (ℕ × Atom)) : Type 0 where
  pub there : Contains q.alternatives atoms
  pub met : AllByRecursion (λ c. IsMet s place (at_place s q place Empty) c.1) atoms
  pub apart : are_apart used (marked atoms) ≡ true

-- Each place contradicts itself, or some alternative is met there.
abbrev pub AreDirect : Scene → Correspondence → (places used : List ℕ) → Type 0
AreDirect s q [] used = Unit {0}
AreDirect s q (p ∷ ps) used =
    ((is_contradictory (known_at s p) ≡ true) × AreDirect s q ps used)
    ⊎ ((is_contradictory (known_at s p) ≡ false) × (atoms : List (ℕ × Atom)) × IsAlternative s q p used atoms × AreDirect s q ps (used ++ marked atoms))

-- no variable stands on the right alone
pub record IsDirectCorrespondence (s : Scene) (q : Correspondence) : Type 0 where
  pub known : q.others ≡ []
  pub places : AreDirect s q (left_places s q) []

abbrev pub IsDirect : Scene → (query : Tree) → Type 0
IsDirect s (Node (Secret x) a b) = AreUnreadChoices s.game x
IsDirect s (Node (SecretOnce x) a b) = IsSecret s x
IsDirect s query = IsDirectCorrespondence s (correspondence_of query)
