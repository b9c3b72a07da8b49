use Rattle.cv_settling_candidates.proofs.Going.{prunings_go}
use Rattle.cv_settling_candidates.proofs.bodies_go.Goals as goal

pub returns : goal.returns
returns c = prunings_go
