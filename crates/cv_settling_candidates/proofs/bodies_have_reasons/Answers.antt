use Rattle.cv_settling_candidates.proofs.Reasoned.{prunings_reasoned}
use Rattle.cv_settling_candidates.proofs.bodies_have_reasons.Goals as goal

pub returns : goal.returns
returns c = prunings_reasoned
