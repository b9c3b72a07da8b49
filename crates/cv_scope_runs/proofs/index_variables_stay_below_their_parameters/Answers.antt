use Rattle.cv_meaning.specs.Experiments.{run, visits_of_run, coins_on}
use Rattle.cv_scope_runs.proofs.FactsRuns.{all_values_below, last_values_below}
use Rattle.cv_scope_runs.proofs.index_variables_stay_below_their_parameters.Goals as goal

pub returns-clause-visits : goal.returns-clause-visits
unfolding visits_of_run
returns-clause-visits c = λ ds g m a game t x n e w i. all_values_below ds g m (a.next (coins_on t 0 a.coins)) t a.moves game e w x n i

pub returns-clause-last : goal.returns-clause-last
unfolding run
returns-clause-last c = λ ds g m a game t x n e w i. last_values_below ds g m (a.next (coins_on t 0 a.coins)) t a.moves game e w x n i
