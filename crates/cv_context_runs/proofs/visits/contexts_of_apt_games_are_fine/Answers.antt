use Rattle.cv_context_runs.proofs.visits.FineGames.{context_fine}
use Rattle.cv_context_runs.proofs.visits.contexts_of_apt_games_are_fine.Goals as goal

pub returns : goal.returns
returns c = context_fine
