use Rattle.std.proofs.Common.{refl}
use Rattle.cv_steps_laws.specs.crypto.Sorts.{are_declared, has_declared_sorts}
use Rattle.cv_steps_laws.proofs.crypto.worked_sorts.Goals as goal

pub returns-clause-declared : goal.returns-clause-declared
unfolding are_declared has_declared_sorts
returns-clause-declared c = refl

pub returns-clause-undeclared : goal.returns-clause-undeclared
unfolding are_declared has_declared_sorts
returns-clause-undeclared c = refl
