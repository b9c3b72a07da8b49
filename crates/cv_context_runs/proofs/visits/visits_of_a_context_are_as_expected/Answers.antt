use Rattle.cv_context_runs.proofs.visits.Visits.{visits_expected}
use Rattle.cv_context_runs.proofs.visits.visits_of_a_context_are_as_expected.Goals as goal

pub returns : goal.returns
returns c = visits_expected
