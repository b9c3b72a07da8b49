-- Of an injective correspondence, the pairs of routes that could end at one execution of a right event. A certificate has to tell the two
-- left events of each apart, or to show that they are one. Blanchet, CSF 2007, for injective correspondences; pairs, their order and
-- their ends are this profile's own.
use Rattle.std.specs.Prelude.{ℕ, Bool, false, ◌&&◌, ◌==◌, nat_lt, if◌then◌else◌, List, [], ◌∷◌, ◌++◌, map, flat_map, take, length, Option, Some, None}
use Rattle.cv_syntax_trees.specs.declared.head.Head.{Head}
use Rattle.cv_syntax_trees.specs.declared.head.Head.TheVariants.{AboveRoute, AtEntry, CellRoute, Cons, Eq, Find, If, WithEntry}
use Rattle.cv_syntax_trees.specs.Tree.{Tree, Empty, Node, first, first_place, second_place}
use Rattle.cv_meaning.specs.Correspondences.{Atom, Correspondence, RightEvent, RightTerm}
use Rattle.cv_scope_rules.specs.Context.{items}
use Rattle.cv_scene.specs.lines.Truths.{no}
use Rattle.cv_scene.specs.Late.{index_term}
use Rattle.cv_scene.specs.Pairs.{of_second, second_indices}
use Rattle.cv_scene.specs.Scenes.{Scene}
use Rattle.cv_scene.specs.Terms.{replications_at}
use Rattle.cv_query_certificates.specs.Alternatives.{chosen_atoms, routes_of}
use Rattle.cv_query_certificates.specs.EventNodes.{place_in}

-- where a route ends: at an event's node, at these indices of the replications above it
pub record End : Type 0 where
  pub node : ℕ
  pub indices : List Tree

abbrev pub end_of : Scene → (route : Tree) → Option End
end_of s (Node AboveRoute q by) = Some (record { node = place_in q; indices = map index_term (replications_at s (place_in q)) })
end_of s (Node CellRoute c (Node h q by)) =
    Some (record { node = place_in q; indices = take (length (replications_at s (place_in q))) (items (first c)) })
end_of s route = None

-- two places of one game, an atom of the query, counted from 1 among all of its right side, and the equations that are given: the two
-- routes for it end at one execution
pub record Needed : Type 0 where
  pub first : ℕ
  pub second : ℕ
  pub atom : ℕ
  pub given : List Tree

abbrev pub equations_between : (ms ns : List Tree) → List Tree
equations_between (m ∷ ms) (n ∷ ns) = Node Eq m n ∷ equations_between ms ns
equations_between ms ns = []

abbrev pub is_injective : Atom → Bool
is_injective (RightEvent inj f ms) = inj
is_injective (RightTerm m) = false

-- where the routes for the events that are marked `inj` end, each with its atom's number, in order

abbrev pub numbered_end : (atom : ℕ) → Option End → List (ℕ × End)
numbered_end n None = []
numbered_end n (Some e) = (n, e) ∷ []

abbrev pub injective_ends : Scene → List (ℕ × Atom) → (routes : Tree) → List (ℕ × End)
injective_ends s (c ∷ cs) (Node h r rs) = (if is_injective c.1 then numbered_end c.0 (end_of s r) else []) ++ injective_ends s cs rs
injective_ends s cs routes = []

-- of the alternative that is chosen
abbrev pub ends_of_choice : Scene → Correspondence → (choice : Tree) → List (ℕ × End)
ends_of_choice s q choice = injective_ends s (chosen_atoms q.alternatives choice) (routes_of choice)

-- the left event's places that have routes, with these ends, in the order of places
abbrev pub ends_in : Scene → Correspondence → (parts : Tree) → List (ℕ × List (ℕ × End))
ends_in s q (Node h (Node AtEntry n (Node WithEntry ws choice)) more) = (place_in n, ends_of_choice s q choice) ∷ ends_in s q more
ends_in s q (Node h part more) = ends_in s q more
ends_in s q Empty = []

-- both routes are for one atom and end at one node; the second copy's terms have its own indices, raised by k
abbrev pub needed_at : Scene → (k p q : ℕ) → (end other : ℕ × End) → List Needed
needed_at s k p q e f =
    if e.0 == f.0 && e.1.node == f.1.node
    then record { first = p; second = q; atom = e.0; given = equations_between e.1.indices (map (of_second k (replications_at s q)) f.1.indices) } ∷ []
    else []

-- for each event that both alternatives have, in the order of the first one's
abbrev pub needed_for : Scene → (k p q : ℕ) → (ends others : List (ℕ × End)) → List Needed
needed_for s k p q es fs = flat_map (λ (e : ℕ × End). flat_map (needed_at s k p q e) fs) es

abbrev pub needed_from : Scene → (k : ℕ) → ℕ × List (ℕ × End) → List (ℕ × List (ℕ × End)) → List Needed
needed_from s k x xs = flat_map (λ (y : ℕ × List (ℕ × End)). needed_for s k x.0 y.0 x.1 y.1) xs

abbrev pub needed_among : Scene → (k : ℕ) → List (ℕ × List (ℕ × End)) → List Needed
needed_among s k [] = []
needed_among s k (x ∷ xs) = needed_from s k x (x ∷ xs) ++ needed_among s k xs

-- by the first place, then the second, then the atom; none without `inj` on the left
abbrev pub needed_pairs : Scene → (k : ℕ) → Correspondence → (parts : Tree) → List Needed
needed_pairs s k q parts = if q.inj then needed_among s k (ends_in s q parts) else []

-- Where two places part, the first of which stands before the second: at an `if` or a `find`, if they stand in two bodies of it, and it
-- is the lowest construct above both.

-- the construct to whose list of bodies or branches a child belongs
abbrev pub of_first : (place : ℕ) → Head → Option ℕ
of_first n (Find l) = Some n
of_first n h = None

abbrev pub of_second_child : Option ℕ → (place : ℕ) → Head → Option ℕ
of_second_child c n If = Some n
of_second_child c n Cons = c
of_second_child c n h = None

-- where one place stands below the first child and the other below the second
abbrev pub between : Option ℕ → (place : ℕ) → Head → Option ℕ
between c n Cons = c
between c n (Find l) = Some n
between c n h = None

unfoldable pub parting : (construct : Option ℕ) → (place : ℕ) → Tree → (p q : ℕ) → Option ℕ
parting c n Empty p q = None
parting c n (Node h a b) p q =
    if nat_lt q (second_place n h a) then parting (of_first n h) (first_place n h) a p q
    else if nat_lt p (second_place n h a) then between c n h
    else parting (of_second_child c n h) (second_place n h a) b p q

-- What a pair's derivation may end with, as lists of terms. At one place: the copies are one. In two bodies of one construct: they are two
-- copies of it, or there are no such copies. In all other cases there are none.

abbrev pub same_indices : (k : ℕ) → List (ℕ × ℕ) → List Tree
same_indices k rs = equations_between (map index_term rs) (map index_term (second_indices k rs))

abbrev pub ends_of_parting : Scene → (k : ℕ) → Option ℕ → List (List Tree)
ends_of_parting s k None = (no ∷ []) ∷ []
ends_of_parting s k (Some n) = same_indices k (replications_at s n) ∷ (no ∷ []) ∷ []

abbrev pub ends_of_pair : Scene → (k p q : ℕ) → List (List Tree)
ends_of_pair s k p q = if p == q then same_indices k (replications_at s p) ∷ [] else ends_of_parting s k (parting None 0 s.game p q)
