use Rattle.cv_steps_laws.proofs.Keeping.{splits}
use Rattle.cv_steps_laws.proofs.splitting_keeps_chances.Goals as goal

pub returns : goal.returns
returns c = splits
