-- What an accepted file and the conditions of the cryptographic step give of a game, an equivalence and a key. This profile's own.
use Rattle.std.specs.Prelude.{◌≡◌, List, length, None}
use Rattle.cv_group_rules.specs.Symbols.{symbols_of}
use Rattle.cv_group_rules.specs.Faults.{IsAccepted}
use Rattle.cv_scope_rules.specs.Phrases.{IsWellFormed}
use Rattle.cv_scope_rules.specs.typing.Parts.{IsTypedGame}
use Rattle.cv_typing_runs.specs.Games.{HasKnownNames}
use Rattle.cv_scene.specs.Refusals.{first_refusal}
use Rattle.cv_scene.specs.Contexts.{AreAnswers}
use Rattle.cv_scene.specs.Reductions.{Reduction, matching, sites}
use Rattle.cv_match_laws.specs.functions.Forms.{HasLeftForm}

pub record IsReducible (r : Reduction) : Type 0 where
  -- the file's game, and each game that accepted steps lead to, is so (`IsReady`)
  pub formed : IsWellFormed r.scene.declarations r.scene.game
  pub typed : IsTypedGame r.scene.declarations r.scene.game
  pub names : HasKnownNames r.scene.declarations r.scene.game
  -- the equivalence is one of the file's, and accepted
  pub form : HasLeftForm r.equivalence
  pub accepted : IsAccepted (symbols_of r.scene.declarations) r.equivalence
  -- the conditions of the step
  pub allowed : first_refusal (matching r) ≡ None
  -- the answers of calls have names of their own
  pub answers : AreAnswers r.scene (length (sites r)) r.answer
