use Rattle.cv_settling_descent.proofs.Merging.{merge_lowers}
use Rattle.cv_settling_descent.proofs.merging_lowers.Goals as goal

pub returns : goal.returns
returns c = merge_lowers
