use Rattle.cv_scene.specs.Reductions.{context_of_game}
use Rattle.cv_context_laws.proofs.shape.Games.{context_part}
use Rattle.cv_context_laws.proofs.shape.Scoped.{game_scoped}
use Rattle.cv_context_laws.proofs.shape.contexts_with_sites_apart_are_well_formed.Goals as goal

pub returns : goal.returns
returns c = λ r apt left kept alike apart. record {
  scoped = game_scoped r.scene.declarations (context_of_game r).game kept alike apart;
  phrase = (context_part r apt left).phrase;
  constants = (context_part r apt left).unbound;
}
