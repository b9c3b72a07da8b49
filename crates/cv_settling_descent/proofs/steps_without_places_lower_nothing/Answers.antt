use Rattle.cv_settling_descent.proofs.Unchanged.{no_birthday_lowers, no_guess_lowers}
use Rattle.cv_settling_descent.proofs.steps_without_places_lower_nothing.Goals as goal

pub returns-clause-birthday : goal.returns-clause-birthday
returns-clause-birthday c = no_birthday_lowers

pub returns-clause-guess : goal.returns-clause-guess
returns-clause-guess c = no_guess_lowers
