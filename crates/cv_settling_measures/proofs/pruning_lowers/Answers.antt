use Rattle.cv_settling_measures.proofs.Pruning.{prune_lowers}
use Rattle.cv_settling_measures.proofs.pruning_lowers.Goals as goal

pub returns : goal.returns
returns c = prune_lowers
