use Rattle.cv_steps_derivations.proofs.unletting.Keeping.{unlets}
use Rattle.cv_steps_derivations.proofs.unletting.unletting_keeps_chances.Goals as goal

pub returns : goal.returns
returns c = unlets
