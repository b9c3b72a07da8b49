use Rattle.cv_settling_laws.proofs.Places.{reasons_derived}
use Rattle.cv_settling_laws.proofs.reasons_are_derived.Goals as goal

pub returns : goal.returns
returns c = reasons_derived
