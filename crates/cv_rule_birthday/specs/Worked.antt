-- What is said of `birthday` in small games. Names are numbers: 1 and 12 are indices of replications with the parameter 2, 3 and 7 are
-- channels, 4 a nonce, 5 a large type and 6 another one, 8 and 9 are indices of a `find`.
use Rattle.std.specs.Prelude.{ℕ, false, true, nat_lt, List, [], ◌∷◌, None}
use Rattle.cv_syntax_trees.specs.declared.class.Class.TheVariants as class
use Rattle.cv_syntax_trees.specs.declared.head.Head.TheVariants.{Eq, New, Par, Repl, Yield}
use Rattle.cv_syntax_trees.specs.Builders.{branch, find, input, leaf, read}
use Rattle.cv_syntax_trees.specs.Declarations.{Declaration, Named}
use Rattle.cv_syntax_trees.specs.Tree.{Tree, Empty, Node, lone}
use Rattle.cv_meaning_runs.specs.Replacement.{if_tree}
use Rattle.cv_scene.specs.lines.Truths.{yes}
use Rattle.cv_scene.specs.Scenes.{Scene}
use Rattle.cv_steps.specs.Judgements.{Accepted, Judgement, Refused}
use Rattle.cv_steps.specs.Steps.{Collisions, Cost}

-- type 0 [fixed]. type 5 [fixed, large]. type 6 [fixed]. param 2. channel 3. channel 7.
abbrev pub declared : List Declaration
declared =
    Named 0 (class.TypeName true false) Empty None ∷ Named 5 (class.TypeName true true) Empty None ∷ Named 6 (class.TypeName true false) Empty None
    ∷ Named 2 class.Param Empty None ∷ Named 3 class.Channel Empty None ∷ Named 7 class.Channel Empty None ∷ []

abbrev pub scene_of : Tree → Scene
scene_of game = record { declarations = declared; known = λ x. nat_lt x 8; game = game }

-- the nonce at an index, and the index
abbrev pub cell : ℕ → Tree
cell u = read 4 (read u (leaf 1 ∷ []) ∷ [])

abbrev pub at : ℕ → Tree
at u = read u (leaf 1 ∷ [])

-- ( !12<=2 in(3[12], ()); new 4: T; yield | !1<=2 in(7[1], ()); the process ): the choice stands at 3, the process at 7
abbrev pub nonces : (type : ℕ) → (process : Tree) → Tree
nonces T process =
    Node Par (Node (Repl 12 2) Empty (input 3 (12 ∷ []) [] (Node (New 4 T) Empty (lone Yield))))
    (Node (Repl 1 2) Empty (input 7 (1 ∷ []) [] process))

-- find 8, 9 suchthat defined(4[8], 4[9]) && the condition then if the test then yield else yield else yield
abbrev pub finds : (condition test : Tree) → Tree
finds condition test =
    find 1 (branch ((8, 2) ∷ (9, 2) ∷ []) (cell 8 ∷ cell 9 ∷ []) condition (if_tree test (lone Yield) (lone Yield)) ∷ []) (lone Yield)

-- the condition stands at 15, the test at 23
abbrev pub repeats : (type : ℕ) → (condition test : Tree) → Tree
repeats T condition test = nonces T (finds condition test)

abbrev pub same_cells : Tree
same_cells = Node Eq (cell 8) (cell 9)

abbrev pub same_again : Tree
same_again = Node Eq (cell 9) (cell 8)

-- in(3, ()); new 4: 5; if 4 = 4 then yield else yield: the comparison stands at 3
abbrev pub alone : (test : Tree) → Tree
alone test = input 3 [] [] (Node (New 4 5) Empty (if_tree test (lone Yield) (lone Yield)))

-- in(3, (4: 5)); if 4 = 4 then yield else yield
abbrev pub received : Tree
received = input 3 [] ((4, 5) ∷ []) (if_tree (Node Eq (leaf 4) (leaf 4)) (lone Yield) (lone Yield))

abbrev pub squared : Cost
squared = Collisions ((record { times = 1; factors = (record { 0 = 2 }, 2) ∷ []; half = true; over = record { 0 = 5 } }) ∷ [])

abbrev pub single : Cost
single = Collisions ((record { times = 1; factors = []; half = true; over = record { 0 = 5 } }) ∷ [])

abbrev pub case_of : (game : Tree) → (x : ℕ) → (places : List ℕ) → Judgement → Scene × ℕ × List ℕ × Judgement
case_of game x ps j = (scene_of game, x, ps, j)

abbrev pub birthdays : List (Scene × ℕ × List ℕ × Judgement)
birthdays =
    case_of (alone (Node Eq (leaf 4) (leaf 4))) 4 (3 ∷ []) (Accepted (alone yes) single)
    ∷ case_of (alone yes) 4 [] (Accepted (alone yes) single)
    ∷ case_of (repeats 5 same_cells same_again) 4 (15 ∷ 23 ∷ []) (Accepted (repeats 5 (Node Eq (at 8) (at 9)) (Node Eq (at 9) (at 8))) squared)
    -- no such name; a place that the game hasn't; places in another order
    ∷ case_of (alone yes) 15 [] (Refused 0 0)
    ∷ case_of (alone (Node Eq (leaf 4) (leaf 4))) 4 (9 ∷ []) (Refused 0 0)
    ∷ case_of (repeats 5 same_cells same_again) 4 (23 ∷ 15 ∷ []) (Refused 0 0)
    -- no comparison of two cells of the variable
    ∷ case_of (alone yes) 4 (3 ∷ []) (Refused 1 3)
    ∷ case_of (repeats 5 same_cells (Node Eq (at 8) (at 9))) 4 (15 ∷ 23 ∷ []) (Refused 1 23)
    -- another definition; another type; no definition
    ∷ case_of received 4 (2 ∷ []) (Refused 2 0)
    ∷ case_of (repeats 6 same_cells same_again) 4 (15 ∷ []) (Refused 2 3)
    ∷ case_of (alone yes) 5 [] (Refused 2 0)
    ∷ []
