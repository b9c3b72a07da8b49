use Rattle.cv_scene.specs.Reductions.{context_of_game}
use Rattle.cv_context_runs.proofs.visits.FineGames.{context_fine}
use Rattle.cv_context_runs.proofs.visits.Visits.{visits_expected}
use Rattle.cv_context_runs.proofs.visits.contexts_of_apt_games_are_texts.Goals as goal

pub returns : goal.returns
returns c = λ T r m a f b. record {
  fine = context_fine T r f.apt f.key f.roles f.free f.calls;
  tapes = b.tapes;
  asked = b.asked;
  coins = b.coins;
  visited = visits_expected r.scene.declarations T m a (context_of_game r).game f.constants f.formed f.calls;
}
