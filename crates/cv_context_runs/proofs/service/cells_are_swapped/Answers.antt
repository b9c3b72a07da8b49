use Rattle.cv_context_runs.proofs.service.Runs.{again, one_to_one}
use Rattle.cv_context_runs.proofs.service.cells_are_swapped.Goals as goal

pub returns-clause-back : goal.returns-clause-back
returns-clause-back c = again

pub returns-clause-one_to_one : goal.returns-clause-one_to_one
returns-clause-one_to_one c = one_to_one
