-- The form of a certificate: what a query and a game ask of it before its derivations are read. This profile's own.
use Rattle.std.specs.Prelude.{ℕ, Bool, true, false, ◌&&◌, ◌==◌, List, [], ◌∷◌, Option, None, Some, is_some}
use Rattle.cv_syntax_trees.specs.declared.head.Head.TheVariants.{AboveRoute, AtEntry, CellRoute, HoldsRoute, NeverEntry, Number, WithEntry}
use Rattle.cv_syntax_trees.specs.Tree.{Tree, Empty, Node}
use Rattle.cv_syntax_trees.specs.declared.sites.sort.Sort.TheVariants.{OfType}
use Rattle.cv_meaning.specs.Correspondences.{Atom, Correspondence, RightEvent, RightTerm}
use Rattle.cv_scope_rules.specs.Context.{Context}
use Rattle.cv_scene.specs.Scenes.{Scene}
use Rattle.cv_scene.specs.Sights.{Sight, is_cell_at, is_term_of, sight_at}
use Rattle.cv_query_certificates.specs.Alternatives.{chosen, chosen_atoms, routes_of}
use Rattle.cv_query_certificates.specs.EventNodes.{are_for, arguments_at, event_places, is_event_above, only_site, place_in}

-- the places of the left event, in preorder
abbrev pub left_places : Scene → Correspondence → List ℕ
left_places s q = event_places q.event 0 s.game

abbrev pub is_number : ℕ → Tree → Bool
is_number p (Node (Number v) a b) = v == p
is_number p t = false

-- a term of its type for each of the variables; the terms need not be in scope
abbrev pub have_types : Sight → List (ℕ × ℕ) → (witnesses : Tree) → Bool
have_types s [] Empty = true
have_types s (x ∷ xs) (Node h m ms) = is_term_of s (OfType x.1) m && have_types s xs ms
have_types s xs ms = false

-- the event's node at q stands above the only definition of a variable
abbrev pub is_above_site : (game : Tree) → (event : ℕ) → (terms : Tree) → (q : ℕ) → Option (ℕ × Context) → Bool
is_above_site game f ms q None = false
is_above_site game f ms q (Some d) = is_event_above game f ms q d.0

-- a right event is that of a node above, or of a node above the only definition of a typed cell; a right term has a derivation
abbrev pub has_route_form : Scene → (place : ℕ) → Atom → (route : Tree) → Bool
has_route_form s p (RightEvent inj f ms) (Node AboveRoute q by) = is_event_above s.game f ms (place_in q) p
has_route_form s p (RightEvent inj f ms) (Node CellRoute c (Node h q by)) =
    is_cell_at s p c && is_above_site s.game f ms (place_in q) (only_site s.game c)
has_route_form s p (RightTerm m) (Node HoldsRoute by e) = true
has_route_form s p c route = false

-- a route for each right event and term, in order
abbrev pub have_route_forms : Scene → (place : ℕ) → List (ℕ × Atom) → (routes : Tree) → Bool
have_route_forms s p [] Empty = true
have_route_forms s p (c ∷ cs) (Node h route more) = has_route_form s p c.1 route && have_route_forms s p cs more
have_route_forms s p cs routes = false

-- an alternative is chosen, and each of its atoms has a route
abbrev pub has_choice : Scene → Correspondence → (place : ℕ) → (choice : Tree) → Bool
has_choice s q p choice =
    is_some (chosen q.alternatives choice) && have_route_forms s p (chosen_atoms q.alternatives choice) (routes_of choice)

-- an entry for the left event's node at a place
abbrev pub has_form : Scene → Correspondence → (place : ℕ) → (entry : Tree) → Bool
has_form s q p (Node AtEntry n (Node NeverEntry by e)) = is_number p n
has_form s q p (Node AtEntry n (Node WithEntry ws choice)) =
    is_number p n && (are_for q.variables (arguments_at s.game p) && (have_types (sight_at s p) q.others ws && has_choice s q p choice))
has_form s q p entry = false
