-- The lines of games and steps: those of the file's game, and behind them those of each accepted step.
use Rattle.std.specs.Prelude.{ℕ, ◌+◌, List, [], ◌∷◌, ◌++◌, codes, if◌then◌else◌, Bool, true, false, Option, Some, None, is_some}
use Rattle.std.specs.Fmt.{decimal}
use Rattle.cv_bound.specs.Texts.{listed_text}
use Rattle.cv_bound.specs.declared.cost.Cost.{Cost}
use Rattle.cv_context.specs.products.Shapes.{Shape}
use Rattle.cv_print.specs.Games.{game_text}
use Rattle.cv_report.specs.contexts.Contexts.{context_text}
use Rattle.cv_script.specs.Text.{step_text}
use Rattle.cv_syntax_trees.specs.Tree.{Tree}

-- What the lines of an accepted step tell: the names that there are behind it, its tree, its cost, the shape of its context, and the game of
-- its own that it leads to. A step that closes a query leads to none.
pub record Leg : Type 0 where
  pub names : List (List ℕ)
  pub step : Tree
  pub cost : Cost
  pub context : Option Shape
  pub next : Option Tree

-- the line of a step's cost
abbrev pub cost_text : List (List ℕ) → Cost → List ℕ
cost_text names c = codes "cost " ++ listed_text names c ++ codes "\n"

-- the game that a step leads to, with its number
abbrev pub next_text : List (List ℕ) → ℕ → Option Tree → List ℕ
next_text names g None = []
next_text names g (Some game) = codes "game " ++ decimal g ++ codes "\n" ++ game_text names game

-- the k-th step, with its cost and its context, and the game that it leads to, which would be the g-th
abbrev pub leg_text : (order : List ℕ) → (k g : ℕ) → Leg → List ℕ
leg_text order k g e =
    codes "step " ++ decimal k ++ codes ": " ++ step_text e.names e.step ++ codes ";\n"
    ++ cost_text e.names e.cost ++ context_text e.names order k e.context ++ next_text e.names g e.next

-- the number of the next game
abbrev pub game_after : ℕ → Leg → ℕ
game_after g e = if is_some e.next then g + 1 else g

unfoldable pub games_along : ℕ → List Leg → ℕ
games_along g [] = g
games_along g (e ∷ es) = games_along (game_after g e) es

-- the steps from the k-th on, where the next game would be the g-th
unfoldable pub legs_text : (order : List ℕ) → (k g : ℕ) → List Leg → List ℕ
legs_text order k g [] = []
legs_text order k g (e ∷ es) = leg_text order k g e ++ legs_text order (k + 1) (game_after g e) es

-- What the lines of a file tell: the names and the game that it has, its parameters in their order, and its accepted steps.
pub record Lines : Type 0 where
  pub names : List (List ℕ)
  pub game : Tree
  pub order : List ℕ
  pub legs : List Leg

abbrev pub lines_text : Lines → List ℕ
lines_text l = codes "game 1\n" ++ game_text l.names l.game ++ legs_text l.order 1 2 l.legs

-- where they are to be shown
abbrev pub shown_text : (shows : Bool) → Lines → List ℕ
shown_text true l = lines_text l
shown_text false l = []

-- with one step more
abbrev pub with_leg : Lines → Leg → Lines
with_leg l e = record l { legs = l.legs ++ e ∷ [] }
