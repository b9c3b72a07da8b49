-- What the routes of a certificate's entry name, and that visits meet it. Correspondences are those of Blanchet, CSF 2007;
-- certificates are this profile's own.
use Rattle.std.specs.Prelude.{◌≡◌, ℕ, zero, suc, List, [], ◌∷◌, Contains}
use Rattle.cv_syntax_trees.specs.declared.head.Head.TheVariants.{AboveRoute, CellRoute}
use Rattle.cv_syntax_trees.specs.Tree.{Tree, Empty, Node, first, second}
use Rattle.cv_meaning.specs.Interpretation.{Setting}
use Rattle.cv_meaning.specs.Memory.{Happened, Indices, Local, nowhere, tuple}
use Rattle.cv_meaning.specs.Serving.{Visit}
use Rattle.cv_meaning.specs.Terms.{value, values_here}
use Rattle.cv_meaning.specs.Correspondences.{Atom, Correspondence, RightEvent, RightTerm}
use Rattle.cv_meaning_laws.specs.adequacy.Broken.{AreValues, StandsAt, query_values, right_event}
use Rattle.cv_query_certificates.specs.Alternatives.{chosen_atoms, routes_of}
use Rattle.cv_query_certificates.specs.EventNodes.{place_in}
use Rattle.cv_query_laws.specs.correspondences.Happenings.{happening_at}
use Rattle.cv_query_laws.specs.visits.Events.{event_visits}
use Rattle.cv_query_laws.specs.visits.Visited.{IsFront}

-- the event's node to which a route leads
abbrev pub route_place : Tree → ℕ
route_place (Node AboveRoute n by) = place_in n
route_place (Node CellRoute c (Node h n by)) = place_in n
route_place route = 0

-- The copies that it can be of, at the visit of the left event: the node's indices are the first ones of these, which are the current
-- ones, or those of the cell.
abbrev pub route_tuple : Setting → Local → Tree → List ℕ
route_tuple g l (Node CellRoute c more) = values_here g l (first c)
route_tuple g l route = tuple l.indices

-- the item with this number of a list, counted from 0
abbrev pub item_at : Tree → ℕ → Tree
item_at Empty n = Empty
item_at (Node h a b) zero = a
item_at (Node h a b) (suc n) = item_at b n

-- the witnesses of an entry, the atoms of the alternative that it chooses, and their routes

abbrev pub witnesses_of : (entry : Tree) → Tree
witnesses_of entry = first (second entry)

abbrev pub choice_of : (entry : Tree) → Tree
choice_of entry = second (second entry)

abbrev pub entry_atoms : Correspondence → (entry : Tree) → List (ℕ × Atom)
entry_atoms q entry = chosen_atoms q.alternatives (choice_of entry)

abbrev pub entry_routes : (entry : Tree) → Tree
entry_routes entry = routes_of (choice_of entry)

-- which event a node executed, at the first ones of these indices
abbrev pub Execution : Type 1
Execution = (place : ℕ) → List ℕ → Happened → Type 0

-- a right event was executed where its route leads to, and a right term is true
abbrev pub HoldsBy : Setting → Execution → Local → Indices → Atom → (route : Tree) → Type 0
HoldsBy g E l ρ (RightEvent inj f ms) route = E (route_place route) (route_tuple g l route) (right_event g ρ f ms)
HoldsBy g E l ρ (RightTerm m) route = value g ρ nowhere m ≡ 1

-- At the visit of the left event, with the values of the entry's witnesses for the variables on the right alone, the event has the right
-- events of the entry's alternative where the routes lead to, and its right terms.
pub record IsMetBy (g : Setting) (q : Correspondence) (E : Execution) (l : Local) (left : Happened) (entry : Tree) : Type 0 where
  pub is_alternative : Contains q.alternatives (entry_atoms q entry)
  pub are_values : AreValues g q.others (values_here g l (witnesses_of entry))
  pub hold : (k n : ℕ) (atom : Atom) → StandsAt (entry_atoms q entry) k (n, atom) →
      HoldsBy g E l (query_values q left (values_here g l (witnesses_of entry))) atom (item_at (entry_routes entry) k)

-- The event was recorded at a position whose visit is of this place, at the first ones of these indices.
pub record IsExecuted (vs : List Visit) (es : List Happened) (place : ℕ) (u : List ℕ) (e : Happened) : Type 0 where
  pub position : ℕ
  pub visit : Visit
  pub stands : StandsAt (event_visits vs) position visit
  pub there : visit.place ≡ place
  pub front : IsFront (tuple visit.before.indices) u
  pub executed : StandsAt es position e

-- Each left event of the node at this place is met, at its visit, by events of the run with these visits and events.
abbrev pub AreMetBy : Setting → Correspondence → List Visit → List Happened → (place : ℕ) → (entry : Tree) → Type 0
AreMetBy g q vs es place entry =
    (number : ℕ) (v : Visit) → StandsAt (event_visits vs) number v → v.place ≡ place →
    (e : Happened) → happening_at g v ≡ e ∷ [] → e.event ≡ q.event → IsMetBy g q (IsExecuted vs es) v.before e entry
