use Rattle.cv_steps_derivations.proofs.pruning.Keeping.{prunes}
use Rattle.cv_steps_derivations.proofs.pruning.pruning_keeps_chances.Goals as goal

pub returns : goal.returns
returns c = prunes
