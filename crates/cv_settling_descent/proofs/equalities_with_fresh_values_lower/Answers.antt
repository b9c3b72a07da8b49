use Rattle.cv_settling_descent.proofs.Freshness.{fresh_lowers}
use Rattle.cv_settling_descent.proofs.Guessing.{guess_lowers}
use Rattle.cv_settling_descent.proofs.equalities_with_fresh_values_lower.Goals as goal

pub returns-clause-fresh : goal.returns-clause-fresh
returns-clause-fresh c = fresh_lowers

pub returns-clause-guess : goal.returns-clause-guess
returns-clause-guess c = guess_lowers
