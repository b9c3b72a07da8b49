use Rattle.cv_steps.proofs.values.Adding.{sum_value_append, collisions_twice, terms_have_tapes, one_coefficient, collision_has_tapes}
use Rattle.cv_steps.proofs.values.values_of_sums.Goals as goal

pub returns-clause-both : goal.returns-clause-both
returns-clause-both c = sum_value_append

pub returns-clause-merged : goal.returns-clause-merged
returns-clause-merged c = one_coefficient

pub returns-clause-secrecy : goal.returns-clause-secrecy
returns-clause-secrecy c = collisions_twice

pub returns-clause-tapes : goal.returns-clause-tapes
returns-clause-tapes c = terms_have_tapes

pub returns-clause-size : goal.returns-clause-size
returns-clause-size c = collision_has_tapes
