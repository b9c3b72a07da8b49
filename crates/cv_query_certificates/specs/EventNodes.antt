-- Event nodes of a game: their places, their arguments, and what stands behind them. This profile's own.
use Rattle.std.specs.Prelude.{ℕ, ◌+◌, Bool, true, false, ◌&&◌, not, ◌==◌, nat_lt, if◌then◌else◌, List, [], ◌∷◌, ◌++◌, Option, None, Some, option_and_then}
use Rattle.cv_syntax_trees.specs.declared.head.Head.{Head}
use Rattle.cv_syntax_trees.specs.declared.head.Head.TheVariants.{Event, Number}
use Rattle.cv_syntax_trees.specs.Tree.{Tree, Empty, Node, first, first_place, second_place, size}
use Rattle.cv_scope_rules.specs.Behind.{sites_of}
use Rattle.cv_scope_rules.specs.Context.{Context}
use Rattle.cv_scene.specs.Scenes.{part_at}
use Rattle.cv_scene.specs.Sights.{variable_of}

abbrev pub is_event_head : ℕ → Head → Bool
is_event_head f (Event e) = e == f
is_event_head f h = false

-- the places of an event's nodes in a tree that stands at a place, in preorder
unfoldable pub event_places : (event place : ℕ) → Tree → List ℕ
event_places f p Empty = []
event_places f p (Node h a b) =
    (if is_event_head f h then p ∷ [] else []) ++ (event_places f (first_place p h) a ++ event_places f (second_place p h a) b)

abbrev pub arguments_at : (game : Tree) → (place : ℕ) → Tree
arguments_at game p = first (part_at game p)

-- two lists of terms, and one of terms and one of names, are equally long

abbrev pub are_as_many : Tree → Tree → Bool
are_as_many Empty Empty = true
are_as_many (Node h m ms) (Node k n ns) = are_as_many ms ns
are_as_many ms ns = false

abbrev pub are_for : List ℕ → Tree → Bool
are_for [] Empty = true
are_for (x ∷ xs) (Node h m ms) = are_for xs ms
are_for xs ms = false

-- a place is one of those behind an event's node with so many arguments, which stands at q
abbrev pub is_behind : (event : ℕ) → (terms : Tree) → (q : ℕ) → (node : Tree) → (place : ℕ) → Bool
is_behind f ms q (Node (Event e) a b) p =
    e == f && (are_as_many a ms && (not (nat_lt p (second_place q (Event e) a)) && nat_lt p (second_place q (Event e) a + size b)))
is_behind f ms q t p = false

-- the event's node at q stands above a place
abbrev pub is_event_above : (game : Tree) → (event : ℕ) → (terms : Tree) → (q place : ℕ) → Bool
is_event_above game f ms q p = is_behind f ms q (part_at game q) p

-- the only definition of the variable of a cell, with what stands behind it

abbrev pub the_only : List (ℕ × Context) → Option (ℕ × Context)
the_only (d ∷ []) = Some d
the_only ds = None

abbrev pub only_site : (game cell : Tree) → Option (ℕ × Context)
only_site game c = option_and_then (λ x. the_only (sites_of game x)) (variable_of c)

-- a place that a certificate names
abbrev pub place_in : Tree → ℕ
place_in (Node (Number v) a b) = v
place_in t = 0
