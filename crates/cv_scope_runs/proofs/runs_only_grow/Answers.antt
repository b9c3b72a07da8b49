use Rattle.cv_meaning.specs.Experiments.{run, visits_of_run, coins_on}
use Rattle.cv_scope_runs.proofs.FactsRuns.{all_grow, all_grow_to_last}
use Rattle.cv_scope_runs.proofs.runs_only_grow.Goals as goal

pub returns-clause-visits : goal.returns-clause-visits
unfolding visits_of_run
returns-clause-visits c = λ ds g m a game t e w. all_grow ds g m (a.next (coins_on t 0 a.coins)) t a.moves game e w

pub returns-clause-last : goal.returns-clause-last
unfolding run visits_of_run
returns-clause-last c = λ ds g m a game t e w. all_grow_to_last ds g m (a.next (coins_on t 0 a.coins)) t a.moves game e w
