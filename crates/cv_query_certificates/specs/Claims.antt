-- What the derivations of a certificate are to end with: each with its targets, in the order of its text. Blanchet, CSF 2007, for
-- correspondences; the form of certificates is this profile's own.
use Rattle.std.specs.Prelude.{ℕ, List, [], ◌∷◌, ◌++◌, map, Option, None, Some}
use Rattle.cv_syntax_trees.specs.declared.head.Head.TheVariants.{AboveRoute, AtEntry, CellRoute, Cons, Defined, Eq, HoldsRoute, Line, NeverEntry, WithEntry}
use Rattle.cv_syntax_trees.specs.Tree.{Tree, Empty, Node}
use Rattle.cv_meaning.specs.Correspondences.{Atom, Correspondence, RightEvent, RightTerm}
use Rattle.cv_scope_rules.specs.Context.{Context}
use Rattle.cv_scene.specs.lines.Given.{with_given}
use Rattle.cv_scene.specs.lines.Targets.{falsity, target}
use Rattle.cv_scene.specs.Scenes.{Scene}
use Rattle.cv_scene.specs.Sights.{at_cell}
use Rattle.cv_query_certificates.specs.Alternatives.{chosen_atoms, routes_of}
use Rattle.cv_query_certificates.specs.EventNodes.{arguments_at, only_site, place_in}

-- one list of terms behind another
abbrev pub joined : Tree → Tree → Tree
joined Empty ns = ns
joined (Node h m ms) ns = Node h m (joined ms ns)

-- the variables of a query in its atoms: the arguments of the left event, and those on the right alone
abbrev pub names_of : Correspondence → List ℕ
names_of q = q.variables ++ map (λ (x : ℕ × ℕ). x.0) q.others

-- what is put for them at a left event's node: its arguments, and witnesses
abbrev pub terms_for : Scene → (place : ℕ) → (witnesses : Tree) → Tree
terms_for s p ws = joined (arguments_at s.game p) ws

-- a term of the query, or a list of them, there
abbrev pub at_place : Scene → Correspondence → (place : ℕ) → (witnesses term : Tree) → Tree
at_place s q p ws m = with_given (names_of q) (terms_for s p ws) m

-- lines that say that terms are equal, one by one
abbrev pub equations : (ms ns : Tree) → Tree
equations (Node h m ms) (Node k n ns) = Node Cons (Node Line (Node Eq m n) Empty) (equations ms ns)
equations ms ns = Empty

-- the arguments of an event's node that stands above the only definition of a cell's variable, with the cell's index terms
abbrev pub behind_cell : (cell : Tree) → Option (ℕ × Context) → (terms : Tree) → Tree
behind_cell c None ms = ms
behind_cell c (Some d) ms = at_cell c d.1 ms

-- a derivation with its targets
pub record Claim : Type 0 where
  pub by : Tree
  pub targets : Tree

-- of a route to a right event or term, where `put` gives the query's terms
abbrev pub claim_of : Scene → (put : Tree → Tree) → Atom → (route : Tree) → Claim
claim_of s put (RightEvent inj f ms) (Node AboveRoute q by) = record { by = by; targets = equations (arguments_at s.game (place_in q)) (put ms) }
claim_of s put (RightEvent inj f ms) (Node CellRoute c (Node h q by)) =
    record {
      by = by;
      targets = Node Cons (Node Defined c Empty) (equations (behind_cell c (only_site s.game c) (arguments_at s.game (place_in q))) (put ms));
    }
claim_of s put (RightTerm m) (Node HoldsRoute by e) = record { by = by; targets = target (put m) }
claim_of s put c route = record { by = Empty; targets = falsity }

-- of the routes, atom by atom
abbrev pub claims_of : Scene → (put : Tree → Tree) → List (ℕ × Atom) → (routes : Tree) → List Claim
claims_of s put (c ∷ cs) (Node h route more) = claim_of s put c.1 route ∷ claims_of s put cs more
claims_of s put cs routes = []

-- of what is said of the left event's node at a place
abbrev pub entry_claims : Scene → Correspondence → (place : ℕ) → (entry : Tree) → List Claim
entry_claims s q p (Node AtEntry n (Node NeverEntry by e)) = record { by = by; targets = falsity } ∷ []
entry_claims s q p (Node AtEntry n (Node WithEntry ws choice)) =
    claims_of s (at_place s q p ws) (chosen_atoms q.alternatives choice) (routes_of choice)
entry_claims s q p entry = []
