-- What makes the context of a game the text of which a next game's run is told: all but its visits, which are proved. This profile's own.
use Rattle.std.specs.Prelude.{◌≡◌, true, []}
use Rattle.cv_meaning.specs.Cells.{coin_cells}
use Rattle.cv_meaning.specs.Runs.{Adversary, Mode}
use Rattle.cv_meaning.specs.Tapes.{cells_of}
use Rattle.cv_meaning_runs.specs.Agreement.{AgreeAt}
use Rattle.cv_scope_rules.specs.Phrases.{HasConstantsOf, IsWellFormedContext}
use Rattle.cv_scene.specs.Apt.{IsAptGame}
use Rattle.cv_scene.specs.Reductions.{Reduction, context_of_game, matching}
use Rattle.cv_inline_laws.specs.runs.Contexts.{AreLikeTapes, IsAskedAlike, context_setting}
use Rattle.cv_inline_laws.specs.runs.Texts.{Text}
use Rattle.cv_context_runs.specs.visits.CallTexts.{HasCallTexts}
use Rattle.cv_context_runs.specs.visits.Fine.{HasRolesOf, has_free_indices}

-- the names of the game and of the text
pub record IsFollowed (T : Text) (r : Reduction) : Type 0 where
  pub constants : HasConstantsOf r.scene.declarations (context_setting T)
  pub apt : IsAptGame r
  pub formed : IsWellFormedContext r.scene.declarations (context_of_game r).game
  pub key : T.calls.key ≡ r.key
  pub roles : HasRolesOf T r r.scene.game
  pub free : has_free_indices (matching r) r.scene.game ≡ true
  pub calls : HasCallTexts T [] (context_of_game r).game

-- the tapes, and what an experiment asks
pub record IsFollowedBy (T : Text) (m : Mode) (a : Adversary) : Type 0 where
  pub tapes : AreLikeTapes T
  pub asked : IsAskedAlike T m
  pub coins : AgreeAt (cells_of (coin_cells 0 a.coins)) T.side_tape T.game_tape
