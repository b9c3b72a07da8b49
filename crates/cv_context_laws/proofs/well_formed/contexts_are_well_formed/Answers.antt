use Rattle.cv_scope_rules.proofs.Apart.{game_alike, game_branches}
use Rattle.cv_scene.specs.Reductions.{context_of_game}
use Rattle.cv_context_laws.proofs.shape.Games.{context_part}
use Rattle.cv_context_laws.proofs.shape.Scoped.{game_scoped}
use Rattle.cv_context_laws.proofs.well_formed.Apart.{branches_become, like_becomes}
use Rattle.cv_context_laws.proofs.well_formed.Shown.{context_becomes}
use Rattle.cv_context_laws.proofs.well_formed.Whole.{context_kept}
use Rattle.cv_context_laws.proofs.well_formed.contexts_are_well_formed.Goals as goal

pub returns : goal.returns
returns c = λ r apt left free.
    let become = context_becomes r apt left in
    let alike = game_alike r.scene.declarations r.scene.game apt.formed.scoped in
    let apart = game_branches r.scene.declarations r.scene.game apt.formed.scoped in
    record {
      scoped = game_scoped r.scene.declarations (context_of_game r).game (context_kept r apt left free) (like_becomes r apt.answers r.scene.game (context_of_game r).game become alike apart) (branches_become r apt.answers r.scene.game (context_of_game r).game become alike apart);
      phrase = (context_part r apt left).phrase;
      constants = (context_part r apt left).unbound;
    }
