use Rattle.cv_meaning_runs.proofs.Placed.{visits_have, available_have}
use Rattle.cv_meaning_runs.proofs.visits_have_what_is_passed_down.Goals as goal

pub returns-clause-visits : goal.returns-clause-visits
returns-clause-visits g c = visits_have g.F.NodeFact.holds

pub returns-clause-inputs : goal.returns-clause-inputs
returns-clause-inputs g c = available_have g.F.NodeFact.holds
