use Rattle.cv_derive_laws.proofs.reached.Targets.{targets_hold_law}
use Rattle.cv_derive_laws.proofs.reached.targets_hold.Goals as goal

pub returns : goal.returns
returns c = targets_hold_law
