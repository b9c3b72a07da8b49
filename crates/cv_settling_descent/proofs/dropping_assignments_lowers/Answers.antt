use Rattle.cv_settling_descent.proofs.Unletting.{unlet_lowers}
use Rattle.cv_settling_descent.proofs.dropping_assignments_lowers.Goals as goal

pub returns : goal.returns
returns c = unlet_lowers
