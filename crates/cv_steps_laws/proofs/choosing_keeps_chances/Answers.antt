use Rattle.cv_steps_laws.proofs.Keeping.{chooses}
use Rattle.cv_steps_laws.proofs.choosing_keeps_chances.Goals as goal

pub returns : goal.returns
returns c = chooses
