use Rattle.cv_steps_laws.proofs.crypto.Sorts.{sorts_declared}
use Rattle.cv_steps_laws.proofs.crypto.declared_sorts_are_decided.Goals as goal

pub returns : goal.returns
returns c = sorts_declared
