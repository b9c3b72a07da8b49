use Rattle.cv_steps_laws.proofs.renaming.Keeping.{renames}
use Rattle.cv_steps_laws.proofs.renaming.renaming_keeps_chances.Goals as goal

pub returns : goal.returns
returns c = renames
