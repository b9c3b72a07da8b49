use Rattle.cv_meaning.specs.Experiments.{run, visits_of_run, coins_on}
use Rattle.cv_scope_runs.proofs.FactsRuns.{all_places_hold, all_candidates_hold, all_cells_hold, all_inputs_hold, last_cells_hold, one_definition_holds}
use Rattle.cv_scope_runs.proofs.what_stands_above_holds.Goals as goal

pub returns-clause-places : goal.returns-clause-places
unfolding visits_of_run
returns-clause-places c = λ ds g m a game t e w. all_places_hold ds g m (a.next (coins_on t 0 a.coins)) t a.moves game e w

pub returns-clause-candidates : goal.returns-clause-candidates
unfolding visits_of_run
returns-clause-candidates c = λ ds g m a game t e w. all_candidates_hold ds g m (a.next (coins_on t 0 a.coins)) t a.moves game e w

pub returns-clause-cells : goal.returns-clause-cells
unfolding visits_of_run
returns-clause-cells c = λ ds g m a game t e w. all_cells_hold ds g m (a.next (coins_on t 0 a.coins)) t a.moves game e w

pub returns-clause-last : goal.returns-clause-last
unfolding run
returns-clause-last c = λ ds g m a game t e w. last_cells_hold ds g m (a.next (coins_on t 0 a.coins)) t a.moves game e w

pub returns-clause-inputs : goal.returns-clause-inputs
unfolding run
returns-clause-inputs c = λ ds g m a game t e w. all_inputs_hold ds g m (a.next (coins_on t 0 a.coins)) t a.moves game e w

pub returns-clause-one : goal.returns-clause-one
returns-clause-one c = one_definition_holds
