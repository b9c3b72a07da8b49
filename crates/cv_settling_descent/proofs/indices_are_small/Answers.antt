use Rattle.cv_settling_descent.proofs.Indexing.{small_indices}
use Rattle.cv_settling_descent.proofs.indices_are_small.Goals as goal

pub returns : goal.returns
returns c = small_indices
