-- Rows of `guess` in small games. Names are numbers: 1 and 8 are indices of replications with the parameters 2 and 7, 14 and 15 those of
-- branches; 3 is a channel, 11 an event, 13 a function; 4 is a nonce, 5 a large type and 6 another one; 9 and 16 are messages.
use Rattle.std.specs.Prelude.{ℕ, false, true, if◌then◌else◌, nat_lt, List, [], ◌∷◌, None}
use Rattle.cv_syntax_trees.specs.declared.class.Class.TheVariants as class
use Rattle.cv_syntax_trees.specs.declared.head.Head.TheVariants.{Apply, Eq, Let, New, Par, Repl, Secret, SecretOnce, Stop, Yes, Yield}
use Rattle.cv_syntax_trees.specs.Builders.{branch, event, find, input, leaf, output, read}
use Rattle.cv_syntax_trees.specs.Declarations.{Declaration, Named, Query}
use Rattle.cv_syntax_trees.specs.Tree.{Tree, Empty, Node, chain, lone}
use Rattle.cv_meaning_runs.specs.Replacement.{if_tree}
use Rattle.cv_scene.specs.lines.Truths.{no}
use Rattle.cv_scene.specs.Scenes.{Scene}
use Rattle.cv_steps.specs.Steps.{Fails, Leads, Row}
use Rattle.cv_rule_birthday.specs.Conditions.{stands_at_places}
use Rattle.cv_rule_birthday.specs.guess.Row.{guess_row, one_for_guesses}

-- what is said of the step: condition 0 stands before the row
abbrev pub judged : Scene → (x : ℕ) → (places : List ℕ) → Row
judged s x ps = if stands_at_places s x ps then guess_row s x ps else Fails 0 0

-- type 0 [fixed]. type 5 [large]. type 6 [fixed]. param 2. param 7.
abbrev pub declared : List Declaration
declared =
    Named 0 (class.TypeName true false) Empty None ∷ Named 5 (class.TypeName false true) Empty None ∷ Named 6 (class.TypeName true false) Empty None
    ∷ Named 2 class.Param Empty None ∷ Named 7 class.Param Empty None ∷ []

abbrev pub scene_of : Tree → Scene
scene_of game = record { declarations = declared; known = λ x. nat_lt x 8; game = game }

-- a query for the secrecy of the nonce, in either form
abbrev pub queried : Tree → Scene
queried game = record (scene_of game) { declarations = Query (lone (Secret 4)) ∷ declared }

abbrev pub queried_once : Tree → Scene
queried_once game = record (scene_of game) { declarations = Query (lone (SecretOnce 4)) ∷ declared }

-- variables at the first index, at the second one, and at that of a branch under the second one
abbrev pub own : ℕ → Tree
own x = read x (leaf 1 ∷ [])

abbrev pub other : ℕ → Tree
other x = read x (leaf 8 ∷ [])

abbrev pub found : (x u : ℕ) → Tree
found x u = read x (other u ∷ [])

abbrev pub equal : Tree → Tree → Tree
equal m n = Node Eq m n

abbrev pub applied : Tree → Tree
applied m = Node (Apply 13) (chain (m ∷ [])) Empty

-- in(3[1], ()); new 4: the type; out(3[1], ()); the process
abbrev pub draws : (type : ℕ) → Tree → Tree
draws T process = input 3 (1 ∷ []) [] (Node (New 4 T) Empty (output 3 (1 ∷ []) [] process))

-- !1<=2 that; then in(3[1], (9: the type)); the process
abbrev pub answers : (type : ℕ) → Tree → Tree
answers T process = Node (Repl 1 2) Empty (draws T (input 3 (1 ∷ []) ((9, T) ∷ []) process))

-- if the condition then out(3[1], (9[1])); 0 else the process
abbrev pub tests : (condition : Tree) → (otherwise : Tree) → Tree
tests condition otherwise = if_tree condition (output 3 (1 ∷ []) (own 9 ∷ []) (lone Stop)) otherwise

abbrev pub tests_alone : (condition : Tree) → Tree
tests_alone condition = tests condition (lone Yield)

-- The nonce stands at 2, the second input at 4, the test at 5, its condition at 6 with the nonce at 9, and the test in its other body at 15.
abbrev pub answered : Tree → Tree → Tree
answered condition otherwise = answers 5 (tests condition otherwise)

abbrev pub answered_alone : Tree → Tree
answered_alone condition = answered condition (lone Yield)

abbrev pub own_test : Tree
own_test = equal (own 9) (own 4)

abbrev pub other_test : Tree
other_test = equal (own 4) (own 9)

abbrev pub inner : Tree → Tree
inner condition = if_tree condition (lone Yield) (lone Yield)

-- !1<=2 with the nonce, beside !8<=7 in(3[8], (16: 5)); the process: the first one ends at 6, the input of the other stands at 7
abbrev pub beside : Tree → Tree
beside process =
    Node Par (Node (Repl 1 2) Empty (draws 5 (lone Stop))) (Node (Repl 8 7) Empty (input 3 (8 ∷ []) ((16, 5) ∷ []) process))

-- find 14 <= 2 suchthat defined(4[14[8]]) && the condition then yield else yield: after `beside` the condition stands at 13
abbrev pub finds : (condition : Tree) → Tree
finds condition =
    find 1 (branch ((14, 2) ∷ []) (found 4 14 ∷ []) condition (lone Yield) ∷ []) (lone Yield)

-- the same with 15 <= 2 and a cell of another variable: the condition stands at 16
abbrev pub finds_two : (y : ℕ) → (condition : Tree) → Tree
finds_two y condition =
    find 1 (branch ((14, 2) ∷ (15, 2) ∷ []) (found 4 14 ∷ found y 15 ∷ []) condition (lone Yield) ∷ []) (lone Yield)

-- after the answer to the nonce a find, beside
abbrev pub answers_beside : (condition asked : Tree) → Tree
answers_beside condition asked =
    Node Par (answered_alone condition) (Node (Repl 8 7) Empty (input 3 (8 ∷ []) ((16, 5) ∷ []) (finds asked)))

-- the nonce, then !8<=7 in(3[1, 8], (9: 5)); if 9[1, 8] = 4[1] then yield else yield: the condition stands at 7
abbrev pub many_answers : (condition : Tree) → Tree
many_answers condition =
    Node (Repl 1 2) Empty (draws 5 (Node (Repl 8 7) Empty (input 3 (1 ∷ 8 ∷ []) ((9, 5) ∷ []) (inner condition))))

-- the nonce in one body, and a `let` of its name in the other
abbrev pub assigned_too : Tree
assigned_too =
    Node (Repl 1 2) Empty (input 3 (1 ∷ []) ((9, 5) ∷ []) (if_tree (lone Yes)
    (Node (New 4 5) Empty (output 3 (1 ∷ []) [] (lone Stop)))
    (Node (Let 4 5) (own 9) (output 3 (1 ∷ []) [] (lone Stop)))))

-- without replications: in(3, ()); new 4: 5; out(3, ()); in(3, (9: 5)); if the condition then yield else yield, with the condition at 5
abbrev pub alone : (condition : Tree) → Tree
alone condition =
    input 3 [] [] (Node (New 4 5) Empty (output 3 [] [] (input 3 [] ((9, 5) ∷ []) (inner condition))))

abbrev pub case_of : Scene → (x : ℕ) → (places : List ℕ) → Row → Scene × ℕ × List ℕ × Row
case_of s x ps row = (s, x, ps, row)

-- guesses of the large type
abbrev pub leads : (next : Tree) → (parameters : List (List ℕ)) → Row
leads next ps = Leads next (one_for_guesses declared ps 5)

-- The cost has a term for each place, with the index of a branch in whose condition it stands. Of a place inside another one both count.
abbrev pub accepted : List (Scene × ℕ × List ℕ × Row)
accepted =
    case_of (scene_of (answered_alone own_test)) 4 (6 ∷ []) (leads (answered_alone no) ((2 ∷ []) ∷ []))
    ∷ case_of (scene_of (many_answers (equal (read 9 (leaf 1 ∷ leaf 8 ∷ [])) (own 4)))) 4 (7 ∷ []) (leads (many_answers no) ((2 ∷ 7 ∷ []) ∷ []))
    ∷ case_of (scene_of (answered own_test (inner other_test))) 4 (6 ∷ 16 ∷ []) (leads (answered no (inner no)) ((2 ∷ []) ∷ (2 ∷ []) ∷ []))
    ∷ case_of (scene_of (answered_alone (equal (own 4) (applied other_test)))) 4 (6 ∷ 10 ∷ []) (leads (answered_alone no) ((2 ∷ []) ∷ (2 ∷ []) ∷ []))
    ∷ case_of (scene_of (beside (finds (equal (found 4 14) (other 16))))) 4 (13 ∷ []) (leads (beside (finds no)) ((7 ∷ 2 ∷ []) ∷ []))
    ∷ case_of (scene_of (beside (finds_two 16 (equal (found 4 14) (found 16 15))))) 4 (16 ∷ []) (leads (beside (finds_two 16 no)) ((7 ∷ 2 ∷ 2 ∷ []) ∷ []))
    ∷ case_of (scene_of (alone (equal (leaf 4) (leaf 9)))) 4 (5 ∷ []) (leads (alone no) ([] ∷ []))
    -- a cell is no read; no place at all
    ∷ case_of (scene_of (answers_beside own_test (lone Yes))) 4 (7 ∷ []) (leads (answers_beside no (lone Yes)) ((2 ∷ []) ∷ []))
    ∷ case_of (scene_of (answered_alone no)) 4 [] (leads (answered_alone no) [])
    ∷ []

abbrev pub refused : List (Scene × ℕ × List ℕ × Row)
refused =
    -- no place; a name that is nowhere; one place twice
    case_of (scene_of (answered_alone own_test)) 4 (16 ∷ []) (Fails 0 0)
    ∷ case_of (scene_of (answered_alone own_test)) 40 (6 ∷ []) (Fails 0 0)
    ∷ case_of (scene_of (answered_alone own_test)) 4 (6 ∷ 6 ∷ []) (Fails 0 0)
    -- no side reads it; a side is a function of it; the second place is no equality
    ∷ case_of (scene_of (answered_alone (equal (own 9) (own 9)))) 4 (6 ∷ []) (Fails 1 6)
    ∷ case_of (scene_of (answered_alone (equal (applied (own 4)) (own 9)))) 4 (6 ∷ []) (Fails 1 6)
    ∷ case_of (scene_of (answered_alone own_test)) 4 (6 ∷ 11 ∷ []) (Fails 1 11)
    -- another type; an argument; the second definition is a `let`; a name without a definition
    ∷ case_of (scene_of (answers 6 (tests_alone own_test))) 4 (6 ∷ []) (Fails 2 2)
    ∷ case_of (scene_of (answered_alone own_test)) 9 (6 ∷ []) (Fails 2 4)
    ∷ case_of (scene_of assigned_too) 4 [] (Fails 2 7)
    ∷ case_of (scene_of (answered_alone own_test)) 5 [] (Fails 2 0)
    -- the right side too; an event; a condition; a second test; a read of it inside the side that is taken
    ∷ case_of (scene_of (beside (finds_two 4 (equal (found 4 14) (found 4 15))))) 4 (16 ∷ []) (Fails 3 20)
    ∷ case_of (queried (answers 5 (if_tree own_test (event 11 (own 4 ∷ []) (lone Yield)) (lone Yield)))) 4 (6 ∷ []) (Fails 3 12)
    ∷ case_of (scene_of (answers_beside own_test (equal (found 4 14) (other 16)))) 4 (7 ∷ []) (Fails 3 25)
    ∷ case_of (scene_of (answered own_test (inner other_test))) 4 (6 ∷ []) (Fails 3 17)
    ∷ case_of (scene_of (answered_alone (equal (own 9) (read 4 (own 4 ∷ []))))) 4 (6 ∷ []) (Fails 3 10)
    -- a query names it
    ∷ case_of (queried (answered_alone own_test)) 4 (6 ∷ []) (Fails 4 0)
    ∷ case_of (queried_once (answered_alone own_test)) 4 (6 ∷ []) (Fails 4 0)
    ∷ case_of (queried (alone (equal (leaf 4) (leaf 9)))) 4 (5 ∷ []) (Fails 4 0)
    ∷ []
