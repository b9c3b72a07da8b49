-- What is said of a step in a game: its conditions in their order, and the limits of the next game. This profile's own.
use Rattle.std.specs.Prelude.{ℕ, nat_lt, if◌then◌else◌}
use Rattle.cv_syntax_trees.specs.Tree.{Tree, size, depth}
use Rattle.cv_syntax.specs.limits.Limits.{most_depth, most_nodes}
use Rattle.cv_scene.specs.Scenes.{Scene}
use Rattle.cv_scene.specs.Terms.{is_game}
use Rattle.cv_steps.specs.Steps.{Cost, Fails, Leads, Row, Step}

pub data Judgement : Type 0 where
  Refused : (condition place : ℕ) → Judgement
  TooLarge : (nodes : ℕ) → Judgement
  TooDeep : (depth : ℕ) → Judgement
  Accepted : (next : Tree) → Cost → Judgement

-- condition 9 is that of the next game
abbrev pub judgement_of_row : Scene → Row → Judgement
judgement_of_row s (Fails condition place) = Refused condition place
judgement_of_row s (Leads next cost) =
    if nat_lt most_nodes (size next) then TooLarge (size next)
    else if nat_lt most_depth (depth next) then TooDeep (depth next)
    else if is_game s.declarations next then Accepted next cost else Refused 9 0

-- condition 0: what the step speaks of is there
abbrev pub judgement_of : Scene → Step → Judgement
judgement_of s step = if step.stands s then judgement_of_row s (step.row s) else Refused 0 0
