use Rattle.std.proofs.Common.{refl}
use Rattle.std.specs.Fmt.{digits}
use Rattle.cv_costs.specs.Factors.{with_parameter}
use Rattle.cv_report.proofs.contexts.laws.worked_contexts.Goals as goal

pub returns-clause-none : goal.returns-clause-none
unfolding digits with_parameter
returns-clause-none c = refl

pub returns-clause-powers : goal.returns-clause-powers
unfolding digits with_parameter
returns-clause-powers c = refl

pub returns-clause-order : goal.returns-clause-order
unfolding digits with_parameter
returns-clause-order c = refl
