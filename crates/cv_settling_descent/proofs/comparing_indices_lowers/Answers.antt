use Rattle.cv_settling_descent.proofs.Birthdays.{birthday_lowers}
use Rattle.cv_settling_descent.proofs.comparing_indices_lowers.Goals as goal

pub returns : goal.returns
returns c = birthday_lowers
