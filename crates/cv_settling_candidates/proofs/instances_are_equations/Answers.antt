use Rattle.cv_settling_candidates.proofs.Instances.{sides_said}
use Rattle.cv_settling_candidates.proofs.instances_are_equations.Goals as goal

pub returns : goal.returns
returns c = sides_said
