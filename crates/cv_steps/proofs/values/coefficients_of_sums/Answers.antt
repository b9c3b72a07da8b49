use Rattle.cv_steps.proofs.values.Coefficients.{coefficients_added, counted_once, counted_twice, small_fit}
use Rattle.cv_steps.proofs.values.coefficients_of_sums.Goals as goal

pub returns-clause-added : goal.returns-clause-added
returns-clause-added c = coefficients_added

pub returns-clause-collisions : goal.returns-clause-collisions
returns-clause-collisions c = counted_once

pub returns-clause-secrecy : goal.returns-clause-secrecy
returns-clause-secrecy c = counted_twice

pub returns-clause-fits : goal.returns-clause-fits
returns-clause-fits c = small_fit
