use Rattle.cv_meaning.specs.Experiments.{coins_on, run, visits_of_run}
use Rattle.cv_meaning.specs.Runs.{start}
use Rattle.cv_query_laws.proofs.correspondences.Happening.{run_happens}
use Rattle.cv_query_laws.proofs.correspondences.events_are_those_of_visits.Goals as goal

pub returns : goal.returns
unfolding run visits_of_run
returns c = λ g m a game t. run_happens g m (a.next (coins_on t 0 a.coins)) t a.moves (start g game)
