-- What is asked of a game, so that what is known at its places is typed there: that it is in the grammar and in array scope, and typed;
-- that each name that it reads is known, and what it applies is a function; and that the declarations of its file have lists of types
-- for arguments. This profile's own.
use Rattle.cv_typing_runs.specs.Games.{HasArguments, HasKnownNames, HasNamedFunctionsAndCells}
use Rattle.cv_scope_rules.specs.Phrases.{IsWellFormed}
use Rattle.cv_scope_rules.specs.typing.Parts.{IsTypedGame}
use Rattle.cv_scene.specs.Scenes.{Scene}

pub record IsTypedScene (s : Scene) : Type 0 where
  pub arguments : HasArguments s.declarations
  pub formed : IsWellFormed s.declarations s.game
  pub typed : IsTypedGame s.declarations s.game
  pub known : HasKnownNames s.declarations s.game
  pub named : HasNamedFunctionsAndCells s.declarations s.game
