-- The step in small games, with what is said of it. Names are numbers: 3 is a channel, 5 a type, 1 a replication's index and 2 its
-- parameter; 11 is the index of a `find`, 4 and 12 to 14 are other variables; the file has the names below 10.
use Rattle.std.specs.Prelude.{ℕ, true, false, List, [], ◌∷◌, None}
use Rattle.cv_syntax_trees.specs.declared.class.Class.TheVariants as class
use Rattle.cv_syntax_trees.specs.declared.head.Head.TheVariants as head
use Rattle.cv_syntax_trees.specs.declared.head.Head.TheVariants.{Eq, Yes, Yield}
use Rattle.cv_syntax_trees.specs.Builders.{branch, find, input, read}
use Rattle.cv_syntax_trees.specs.Declarations.{Named}
use Rattle.cv_syntax_trees.specs.Tree.{Tree, Empty, Node, lone}
use Rattle.cv_meaning_runs.specs.Replacement.{if_tree}
use Rattle.cv_scene.specs.Scenes.{Scene}
use Rattle.cv_steps.specs.Steps.{Step, Zero}
use Rattle.cv_steps.specs.Judgements.{Accepted, Judgement, Refused}
use Rattle.cv_steps_laws.specs.Worked.{copy_of, scene_of}
use Rattle.cv_rule_codef.specs.Row.{codef_step}

-- x[11[1]]
abbrev pub other : (x : ℕ) → Tree
other x = read x (copy_of 11 ∷ [])

-- find 11 <= 2 suchthat defined(cells) && condition then yield else yield
abbrev pub finds_where : (cells : List Tree) → (condition : Tree) → Tree
finds_where cells condition = find 1 (branch ((11, 2) ∷ []) cells condition (lone Yield) ∷ []) (lone Yield)

abbrev pub finds : (cells : List Tree) → Tree
finds cells = finds_where cells (lone Yes)

-- !1<=2 in(3[1], (12: 5, 13: 5)); the process
abbrev pub copies : Tree → Tree
copies process = Node (head.Repl 1 2) Empty (input 3 (1 ∷ []) ((12, 5) ∷ (13, 5) ∷ []) process)

abbrev pub new : ℕ → Tree → Tree
new x process = Node (head.New x 5) Empty process

abbrev pub assigned : ℕ → Tree → Tree
assigned x process = Node (head.Let x 5) (copy_of 12) process

abbrev pub game_of : Tree → Scene
game_of process = scene_of (Named 2 class.Param Empty None ∷ []) (copies process)

abbrev pub add : (place to from : ℕ) → Step
add p y x = codef_step p true false (other y) (other x)

abbrev pub drop : (place to from : ℕ) → Step
drop p y x = codef_step p false false (other y) (other x)

-- from a variable below
abbrev pub add_above : (place to from : ℕ) → Step
add_above p y x = codef_step p true true (other y) (other x)

-- The input stands at 1; without a definition behind it the `find` stands at 2, and its branch at 3.
abbrev pub codefs : List (Scene × Step × Judgement)
codefs =
    -- arguments of one input; a `let` behind the input; a `new` behind the other
    (game_of (finds (other 12 ∷ [])), add 3 13 12, Accepted (copies (finds (other 12 ∷ other 13 ∷ []))) Zero)
    ∷ (game_of (finds (other 13 ∷ other 12 ∷ [])), drop 3 13 12, Accepted (copies (finds (other 12 ∷ []))) Zero)
    ∷ (game_of (assigned 14 (finds (other 12 ∷ []))), add 6 14 12, Accepted (copies (assigned 14 (finds (other 12 ∷ other 14 ∷ [])))) Zero)
    ∷ (game_of (new 4 (new 14 (finds (other 14 ∷ [])))), add 5 4 14, Accepted (copies (new 4 (new 14 (finds (other 14 ∷ other 4 ∷ []))))) Zero)
    -- a `let` between, and a test
    ∷ (game_of (assigned 4 (assigned 14 (finds (other 14 ∷ [])))), add_above 9 12 14, Accepted (copies (assigned 4 (assigned 14 (finds (other 14 ∷ other 12 ∷ []))))) Zero)
    ∷ (
      game_of (new 4 (if_tree (lone Yes) (new 14 (finds (other 14 ∷ []))) (lone Yield))),
      add_above 7 4 14,
      Accepted (copies (new 4 (if_tree (lone Yes) (new 14 (finds (other 14 ∷ other 4 ∷ []))) (lone Yield)))) Zero,
    )
    -- no place; a name that is nowhere; other indices
    ∷ (game_of (finds (other 12 ∷ [])), add 10 13 12, Refused 0 0)
    ∷ (game_of (finds (other 12 ∷ [])), add 3 40 12, Refused 0 0)
    ∷ (game_of (finds (other 12 ∷ [])), codef_step 3 true false (copy_of 13) (other 12), Refused 0 0)
    -- the `find`; a cell that isn't in the list
    ∷ (game_of (finds (other 12 ∷ [])), add 2 13 12, Refused 1 0)
    ∷ (game_of (finds (other 12 ∷ [])), add 3 12 13, Refused 1 0)
    -- one variable; a `let` between; a variable with two sites
    ∷ (game_of (finds (other 12 ∷ [])), add 3 12 12, Refused 2 0)
    ∷ (game_of (assigned 4 (assigned 14 (finds (other 12 ∷ other 14 ∷ [])))), add 9 14 12, Refused 2 0)
    ∷ (
      game_of (if_tree (lone Yes) (new 4 (new 14 (finds (other 4 ∷ [])))) (new 4 (lone Yield))),
      add 7 14 4,
      Refused 2 0,
    )
    -- the variable below
    ∷ (game_of (assigned 4 (assigned 14 (finds (other 12 ∷ [])))), add_above 9 14 12, Refused 2 0)
    -- a cell that is there; one that isn't
    ∷ (game_of (finds (other 13 ∷ other 12 ∷ [])), add 3 13 12, Refused 3 0)
    ∷ (game_of (finds (other 12 ∷ [])), drop 3 13 12, Refused 3 0)
    -- a cell that the condition reads
    ∷ (
      game_of (finds_where (other 12 ∷ other 13 ∷ []) (Node Eq (other 13) (copy_of 13))),
      drop 3 13 12,
      Refused 9 0,
    )
    ∷ []
