use Rattle.cv_scope_rules.proofs.Apart.{game_alike, game_branches}
use Rattle.cv_scene.specs.Reductions.{context_of_game}
use Rattle.cv_context_laws.proofs.well_formed.Apart.{branches_become}
use Rattle.cv_context_laws.proofs.well_formed.Shown.{context_becomes}
use Rattle.cv_context_laws.proofs.well_formed.sites_of_contexts_are_apart.Goals as goal

pub returns : goal.returns
returns c = λ r apt left. branches_become r apt.answers r.scene.game (context_of_game r).game (context_becomes r apt left) (game_alike r.scene.declarations r.scene.game apt.formed.scoped) (game_branches r.scene.declarations r.scene.game apt.formed.scoped)
