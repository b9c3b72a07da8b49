-- Certificates of correspondences with alternatives, with the first condition of each that fails. The names are those of the other worked
-- certificates, and 13 is an event.
use Rattle.std.specs.Prelude.{ℕ, Bool, true, false, List, [], ◌∷◌, Some, None}
use Rattle.cv_syntax_trees.specs.declared.head.Head.TheVariants.{AlternativePart, AtEntry, Cons, If, Query, SomeOf, Stop, WithEntry, Yield}
use Rattle.cv_syntax_trees.specs.Builders.{event, input, leaf, occurs, output}
use Rattle.cv_syntax_trees.specs.Tree.{Tree, Empty, Node, binders, chain, lone}
use Rattle.cv_scene.specs.Scenes.{Scene}
use Rattle.cv_query_certificates.specs.Worked.{Case, above, begun, entry, eq, events, fails, number, pair, reflexive, scene_of, x}

-- routes behind the number of an alternative
abbrev pub entry_by : (place alternative : ℕ) → (routes : List Tree) → Tree
entry_by p n rs = Node AtEntry (number p) (Node WithEntry Empty (chain (Node AlternativePart (number n) Empty ∷ rs)))

abbrev pub route : (place : ℕ) → Tree
route q = above q (reflexive x ∷ [])

-- event 12(21) ==> .., perhaps with `inj`

abbrev pub asks : (inj : Bool) → (right : Tree) → Tree
asks inj right = Node Query (binders ((21, 5) ∷ [])) (Node Cons (occurs inj 12 (leaf 21 ∷ [])) right)

abbrev pub of_event : (inj : Bool) → ℕ → Tree
of_event inj e = occurs inj e (leaf 21 ∷ [])

abbrev pub either : List Tree → List Tree → Tree
either a b = Node SomeOf (chain a) (chain b)

-- event 11(21) || event 13(21)
abbrev pub either_begun : (inj : Bool) → Tree
either_begun inj = asks inj (either (of_event inj 11 ∷ []) (of_event inj 13 ∷ []))

-- (event 11(21) || event 13(21)) && (event 11(21) || event 13(21)), with four alternatives
abbrev pub twice_begun : Tree
twice_begun =
    let half : Tree = either (of_event false 11 ∷ []) (of_event false 13 ∷ []) in
    asks false (chain (half ∷ half ∷ []))

-- in(3, (4: 5, 9: 5)); if 4 = 9 then event 11(4); event 12(4); .. else event 13(4); event 12(4); ..

abbrev pub answer : Tree
answer = output 6 [] [] (lone Stop)

abbrev pub by_test : (then otherwise : Tree) → Scene
by_test m n = scene_of (input 3 [] ((4, 5) ∷ (9, 5) ∷ []) (Node If (eq (leaf 4) (leaf 9)) (chain (m ∷ n ∷ []))))

abbrev pub two_branches : Scene
two_branches = by_test (event 11 (x ∷ []) (event 12 (x ∷ []) answer)) (event 13 (x ∷ []) (event 12 (x ∷ []) answer))

-- each of the two left events is met by an alternative of its own
abbrev pub of_each : List Tree
of_each = entry_by 7 1 (route 5 ∷ []) ∷ entry_by 13 2 (route 11 ∷ []) ∷ []

abbrev pub two_branches_cases : List Case
two_branches_cases =
    (Some (either_begun false), events of_each, None)
    ∷ (Some (either_begun false), events (entry 7 [] (route 5 ∷ []) ∷ entry_by 13 2 (route 11 ∷ []) ∷ []), fails 2 7)
    ∷ (Some (either_begun false), events (entry_by 7 0 (route 5 ∷ []) ∷ entry_by 13 2 (route 11 ∷ []) ∷ []), fails 2 7)
    ∷ (Some (either_begun false), events (entry_by 7 1 (route 5 ∷ []) ∷ entry_by 13 3 (route 11 ∷ []) ∷ []), fails 2 13)
    ∷ (Some (either_begun false), events (entry_by 7 2 (route 5 ∷ []) ∷ entry_by 13 2 (route 11 ∷ []) ∷ []), fails 2 7)
    ∷ (Some (either_begun false), events (entry_by 7 1 (route 5 ∷ route 5 ∷ []) ∷ entry_by 13 2 (route 11 ∷ []) ∷ []), fails 2 7)
    ∷ (Some begun, events (entry_by 7 1 (route 5 ∷ []) ∷ entry_by 13 1 (route 11 ∷ []) ∷ []), fails 2 7)
    ∷ (Some twice_begun, events (entry_by 7 1 (route 5 ∷ route 5 ∷ []) ∷ entry_by 13 4 (route 11 ∷ route 11 ∷ []) ∷ []), None)
    ∷ (Some twice_begun, events (entry_by 7 2 (route 5 ∷ route 5 ∷ []) ∷ entry_by 13 4 (route 11 ∷ route 11 ∷ []) ∷ []), fails 2 7)
    ∷ (Some (either_begun true), events of_each, fails 5 7)
    ∷ (Some (either_begun true), events (entry_by 7 1 (route 5 ∷ []) ∷ entry_by 13 2 (route 11 ∷ []) ∷ pair 7 7 1 ∷ pair 13 13 2 ∷ []), None)
    ∷ (Some (either_begun true), events (entry_by 7 1 (route 5 ∷ []) ∷ entry_by 13 2 (route 11 ∷ []) ∷ pair 7 7 1 ∷ pair 13 13 1 ∷ []), fails 5 13)
    ∷ []

-- in(3, (4: 5, 9: 5)); if 4 = 9 then event 11(4); event 12(4); event 12(4); .. else yield: one right event stands above two left ones

abbrev pub one_above : Scene
one_above = by_test (event 11 (x ∷ []) (event 12 (x ∷ []) (event 12 (x ∷ []) answer))) (lone Yield)

-- event 11(21) || event 11(21)
abbrev pub same_begun : Tree
same_begun = asks true (either (of_event true 11 ∷ []) (of_event true 11 ∷ []))

-- event 11(21) && (event 11(21) || event 11(21)), the first with `inj`: both alternatives have atom 1
abbrev pub shared : Tree
shared = asks true (chain (of_event true 11 ∷ either (of_event false 11 ∷ []) (of_event false 11 ∷ []) ∷ []))

-- the left events by these alternatives, and pairs
abbrev pub by_both : (first second : ℕ) → (routes pairs : List Tree) → Tree
by_both m n rs ps = events (entry_by 7 m rs ∷ entry_by 9 n rs ∷ ps)

abbrev pub one_above_cases : List Case
one_above_cases =
    (Some (either_begun true), by_both 1 1 (route 5 ∷ []) (pair 7 7 1 ∷ pair 9 9 1 ∷ []), fails 5 7)
    ∷ (Some same_begun, by_both 1 2 (route 5 ∷ []) (pair 7 7 1 ∷ pair 9 9 2 ∷ []), None)
    ∷ (Some same_begun, by_both 1 2 (route 5 ∷ []) (pair 7 7 1 ∷ pair 7 9 1 ∷ pair 9 9 2 ∷ []), fails 5 7)
    ∷ (Some shared, by_both 1 2 (route 5 ∷ route 5 ∷ []) (pair 7 7 1 ∷ pair 9 9 1 ∷ []), fails 5 7)
    ∷ []
