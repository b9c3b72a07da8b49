use Rattle.cv_rule_birthday.proofs.guess.WorkedRows.{of_accepted, of_refused}
use Rattle.cv_rule_birthday.proofs.guess.worked_rows.Goals as goal

pub returns-clause-accepted : goal.returns-clause-accepted
returns-clause-accepted c = of_accepted

pub returns-clause-refused : goal.returns-clause-refused
returns-clause-refused c = of_refused
