-- Moves in small games, with what is said of each. Names are numbers: 3 is a channel, 5 a type, 4 a nonce, 11 and 12 are other
-- variables, 7 is an event; the file has the names below 10.
use Rattle.std.specs.Prelude.{ℕ, List, [], ◌∷◌, None}
use Rattle.cv_syntax_trees.specs.declared.class.Class.TheVariants as class
use Rattle.cv_syntax_trees.specs.declared.head.Head.TheVariants as head
use Rattle.cv_syntax_trees.specs.declared.head.Head.TheVariants.{Yes, Yield}
use Rattle.cv_syntax_trees.specs.Builders.{branch, event, find, leaf}
use Rattle.cv_syntax_trees.specs.Declarations.{Named}
use Rattle.cv_syntax_trees.specs.Tree.{Tree, Empty, Node, lone}
use Rattle.cv_meaning_runs.specs.Replacement.{if_tree}
use Rattle.cv_scene.specs.Scenes.{Scene}
use Rattle.cv_steps.specs.Steps.{Zero}
use Rattle.cv_steps.specs.Judgements.{Judgement, Refused, Accepted}
use Rattle.cv_steps_laws.specs.Worked.{assigns, draws, draws_more, equal, plain, receives, scene_of, sends, sends_assigned}

abbrev pub new : ℕ → Tree → Tree
new x process = Node (head.New x 5) Empty process

-- let 11: 5 = 4 in the process
abbrev pub assigned : Tree → Tree
assigned process = Node (head.Let 11 5) (leaf 4) process

-- if the condition holds then out(3, (4)); 0 else yield
abbrev pub tested : (condition : Tree) → (before : Tree → Tree) → Tree
tested condition before = if_tree condition (before sends) (before (lone Yield))

-- find suchthat defined(cells) && the condition then out(3, (4)); 0 else yield
abbrev pub found : (cells : List Tree) → (condition : Tree) → (before : Tree → Tree) → Tree
found cells condition before = find 1 (branch [] cells condition (before sends) ∷ []) (before (lone Yield))

abbrev pub alone : Tree → Tree
alone process = process

-- a process behind the input, as a game
abbrev pub game_of : Tree → Scene
game_of process = scene_of (Named 7 class.Event Empty None ∷ []) (receives process)

-- The input stands at 0, what is behind it at 1.
abbrev pub moves : List (Scene × ℕ × Judgement)
moves =
    (game_of draws_more, 1, Accepted (receives (new 11 draws)) Zero)
    ∷ (game_of (new 4 (assigned (new 12 sends_assigned))), 2, Accepted (receives (new 4 (new 12 (assigned sends_assigned)))) Zero)
    ∷ (game_of (new 4 (event 7 [] sends)), 1, Accepted (receives (event 7 [] draws)) Zero)
    ∷ (game_of (new 4 (tested (lone Yes) alone)), 1, Accepted (receives (tested (lone Yes) (new 4))) Zero)
    ∷ (game_of (new 4 (found [] (lone Yes) alone)), 1, Accepted (receives (found [] (lone Yes) (new 4))) Zero)
    -- an input; an output; an output behind the nonce
    ∷ (plain, 0, Refused 1 0)
    ∷ (plain, 2, Refused 1 0)
    ∷ (plain, 1, Refused 2 0)
    -- the nonce in a term, in a condition, in a list and in the condition of a branch
    ∷ (game_of (assigns sends_assigned), 1, Refused 3 3)
    ∷ (game_of (new 4 (tested equal alone)), 1, Refused 3 4)
    ∷ (game_of (new 4 (found (leaf 4 ∷ []) equal alone)), 1, Refused 3 4)
    ∷ (game_of (new 4 (found [] equal alone)), 1, Refused 3 5)
    ∷ []
