-- What is asked of a game, an equivalence and a key, that the game's context has its chances. This profile's own.
use Rattle.std.specs.Prelude.{◌≡◌, None}
use Rattle.cv_scope_rules.specs.typing.Parts.{IsTypedGame}
use Rattle.cv_typing_runs.specs.Games.{HasArguments, HasKnownNames}
use Rattle.cv_scene.specs.Refusals.{first_refusal}
use Rattle.cv_scene.specs.Reductions.{Reduction, matching}
use Rattle.cv_scene.specs.Apt.{IsAptGame}

pub record HasContext (r : Reduction) : Type 0 where
  -- by the check of files
  pub arguments : HasArguments r.scene.declarations
  pub typed : IsTypedGame r.scene.declarations r.scene.game
  pub names : HasKnownNames r.scene.declarations r.scene.game
  -- by matching
  pub answered : first_refusal (matching r) ≡ None
  pub apt : IsAptGame r
