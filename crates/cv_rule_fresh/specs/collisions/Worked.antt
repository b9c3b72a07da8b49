-- Rows of `fresh` in small games. Names are numbers: 1 is a replication's index and 2 its parameter, 3 and 7 are channels, 4 a nonce,
-- 5 a large type and 6 another one, 8 a copy of the nonce, 9 a message and 11 an event.
use Rattle.std.specs.Prelude.{ℕ, false, true, nat_lt, List, [], ◌∷◌, Option, None, Some}
use Rattle.cv_syntax_trees.specs.declared.class.Class.TheVariants as class
use Rattle.cv_syntax_trees.specs.declared.head.Head.TheVariants.{Eq, Let, New, Repl, Yes, Yield}
use Rattle.cv_syntax_trees.specs.Builders.{branch, event, find, input, leaf, output, read}
use Rattle.cv_syntax_trees.specs.Declarations.{Declaration, Named}
use Rattle.cv_syntax_trees.specs.Tree.{Tree, Empty, Node, lone}
use Rattle.cv_meaning.specs.Advantage.{chance_of}
use Rattle.cv_meaning.specs.Chances.{Chance}
use Rattle.cv_meaning.specs.Experiments.{Breaks}
use Rattle.cv_meaning.specs.Interpretation.{Interpretation}
use Rattle.cv_meaning.specs.Runs.{Answer, Calls, Move}
use Rattle.cv_meaning_laws.specs.Worked.{adversary, never_query, sized}
use Rattle.cv_meaning_runs.specs.Replacement.{if_tree}
use Rattle.cv_scene.specs.lines.Truths.{no}
use Rattle.cv_scene.specs.Scenes.{Scene}
use Rattle.cv_steps.specs.Steps.{Cost, Fails, Leads, Row}
use Rattle.cv_costs.specs.Collisions.{one_for_each}

-- type 0 [fixed]. type 5 [large]. type 6 [fixed]. param 2.
abbrev pub declared : List Declaration
declared =
    Named 0 (class.TypeName true false) Empty None ∷ Named 5 (class.TypeName false true) Empty None ∷ Named 6 (class.TypeName true false) Empty None
    ∷ Named 2 class.Param Empty None ∷ []

abbrev pub scene_of : Tree → Scene
scene_of game = record { declarations = declared; known = λ x. nat_lt x 10; game = game }

-- the variable at the current index
abbrev pub current : ℕ → Tree
current x = read x (leaf 1 ∷ [])

-- !1<=2 in(3[1], (9: 5)); new 4: the type; the process
abbrev pub copies : (type : ℕ) → Tree → Tree
copies T process = Node (Repl 1 2) Empty (input 3 (1 ∷ []) ((9, 5) ∷ []) (Node (New 4 T) Empty process))

-- if the condition then yield else yield
abbrev pub tests : Tree → Tree
tests condition = if_tree condition (lone Yield) (lone Yield)

-- the nonce stands at 2, the test at 3, and the equality at 4
abbrev pub guesses : (type : ℕ) → (left right : Tree) → Tree
guesses T l r = copies T (tests (Node Eq l r))

-- find suchthat the condition then yield else yield: the condition stands at 5
abbrev pub finds : Tree → Tree
finds condition = copies 5 (find 1 (branch [] [] condition (lone Yield) ∷ []) (lone Yield))

-- let 8: 5 = 4[1] before the test: the equality stands at 7
abbrev pub compares_copy : Tree
compares_copy = copies 5 (Node (Let 8 5) (current 4) (tests (Node Eq (current 4) (current 8))))

-- in(3, ()); new 4: 5; out(3, ()); in(7, (9: 5)); if 4 = 9 then yield else yield: the equality stands at 5
abbrev pub guesses_later : Tree
guesses_later = input 3 [] [] (Node (New 4 5) Empty (output 3 [] [] (input 7 [] ((9, 5) ∷ []) (tests (Node Eq (leaf 4) (leaf 9))))))

-- one of five's values for each copy below the replication
abbrev pub one_of_many : Cost
one_of_many = one_for_each declared (2 ∷ []) 5

abbrev pub case_of : (game : Tree) → (place : ℕ) → Row → Scene × ℕ × Row
case_of game p row = (scene_of game, p, row)

abbrev pub cases : List (Scene × ℕ × Row)
cases =
    case_of (guesses 5 (current 4) (current 9)) 4 (Leads (copies 5 (tests no)) one_of_many)
    ∷ case_of (guesses 5 (current 9) (current 4)) 4 (Leads (copies 5 (tests no)) one_of_many)
    ∷ case_of (finds (Node Eq (current 4) (current 9))) 5 (Leads (finds no) one_of_many)
    -- no equality; no side that reads a variable; one that is not chosen; another type; a choice before an input
    ∷ case_of (guesses 5 (current 4) (current 9)) 3 (Fails 1 0)
    ∷ case_of (guesses 5 (lone Yes) (lone Yes)) 4 (Fails 1 0)
    ∷ case_of (guesses 5 (current 9) (lone Yes)) 4 (Fails 2 0)
    ∷ case_of (guesses 6 (current 4) (current 9)) 4 (Fails 2 0)
    ∷ case_of guesses_later 5 (Fails 2 0)
    -- the nonce itself; a copy of it
    ∷ case_of (guesses 5 (current 4) (current 4)) 4 (Fails 3 4)
    ∷ case_of compares_copy 7 (Fails 3 7)
    ∷ []

-- if the condition then event 11: yield else yield, with a condition at 4
abbrev pub tells : (condition : Tree) → Tree
tells condition = copies 5 (if_tree condition (event 11 [] (lone Yield)) (lone Yield))

abbrev pub guessed : Tree
guessed = tells (Node Eq (current 4) (current 9))

abbrev pub not_guessed : Tree
not_guessed = tells no

-- sends the message 0 to the first copy
abbrev pub guesses_zero : List Answer → Option Move
guesses_zero [] = Some (Calls 3 (0 ∷ []) (0 ∷ []))
guesses_zero _ = None

-- each type has three values, and each parameter the value 1
abbrev pub three_values : Interpretation
three_values = (sized 3 1 1).interpretation

-- the chance that the event happens
abbrev pub chance_in : Tree → Chance
chance_in game = chance_of (sized 3 1 1) (Breaks never_query) (adversary 1 guesses_zero) game
