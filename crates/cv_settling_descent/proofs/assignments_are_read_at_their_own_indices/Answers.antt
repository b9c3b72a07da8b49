use Rattle.cv_settling_descent.proofs.Unletting.{reads_at_definition}
use Rattle.cv_settling_descent.proofs.assignments_are_read_at_their_own_indices.Goals as goal

pub returns : goal.returns
returns c = reads_at_definition
