use Rattle.cv_meaning.specs.Experiments.{visits_of_run, coins_on}
use Rattle.cv_scope_runs.proofs.ConsultedOnce.{all_made_once, all_assign_new, all_own_unassigned, all_consulted_once}
use Rattle.cv_scope_runs.proofs.cells_are_assigned_once.Goals as goal

pub returns-clause-made : goal.returns-clause-made
unfolding visits_of_run
returns-clause-made c = λ ds g m a game t w. all_made_once ds g m (a.next (coins_on t 0 a.coins)) t a.moves game w

pub returns-clause-new : goal.returns-clause-new
unfolding visits_of_run
returns-clause-new c = λ ds g m a game t w. all_assign_new ds g m (a.next (coins_on t 0 a.coins)) t a.moves game w

pub returns-clause-own : goal.returns-clause-own
unfolding visits_of_run
returns-clause-own c = λ ds g m a game t w. all_own_unassigned ds g m (a.next (coins_on t 0 a.coins)) t a.moves game w

pub returns-clause-consulted : goal.returns-clause-consulted
unfolding visits_of_run
returns-clause-consulted c = λ ds g m a game t w. all_consulted_once ds g m (a.next (coins_on t 0 a.coins)) t a.moves game w
