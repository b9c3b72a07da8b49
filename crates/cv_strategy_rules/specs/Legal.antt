-- Steps that are legal in a game: all their conditions hold. The limits of a next game are left aside. This profile's own.
use Rattle.std.specs.Prelude.{◌≡◌, true}
use Rattle.cv_syntax_trees.specs.Tree.{Tree}
use Rattle.cv_scene.specs.Scenes.{Scene}
use Rattle.cv_scene.specs.Terms.{is_game}
use Rattle.cv_steps.specs.Steps.{Cost, Leads, Step}

-- the conditions hold that the step asks of this game
pub record LeadsTo (s : Scene) (step : Step) (next : Tree) : Type 0 where
  pub stands : step.stands s ≡ true
  pub cost : Cost
  pub row : step.row s ≡ Leads next cost

-- and what it leads to is a game
pub record IsLegal (s : Scene) (step : Step) (next : Tree) : Type 0 where
  pub leads : LeadsTo s step next
  pub game : is_game s.declarations next ≡ true
