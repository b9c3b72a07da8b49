use Rattle.cv_steps_laws.proofs.Keeping.{assigns}
use Rattle.cv_steps_laws.proofs.assigning_keeps_chances.Goals as goal

pub returns : goal.returns
returns c = assigns
