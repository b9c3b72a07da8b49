use Rattle.cv_steps.proofs.values.Adding.{value_is_added, tapes_are_kept, bounds_are_kept}
use Rattle.cv_steps.proofs.values.adding_keeps_the_value.Goals as goal

pub returns-clause-value : goal.returns-clause-value
returns-clause-value c = value_is_added

pub returns-clause-tapes : goal.returns-clause-tapes
returns-clause-tapes c = tapes_are_kept

pub returns-clause-bound : goal.returns-clause-bound
returns-clause-bound c = bounds_are_kept
