use Rattle.cv_meaning.specs.Experiments.{visits_of_run, coins_on}
use Rattle.cv_scope_runs.proofs.FactsRuns.{all_reads_assigned}
use Rattle.cv_scope_runs.proofs.values_are_assigned_before_they_are_read.Goals as goal

pub returns : goal.returns
unfolding visits_of_run
returns c = λ ds g m a game t e w. all_reads_assigned ds g m (a.next (coins_on t 0 a.coins)) t a.moves game e w
