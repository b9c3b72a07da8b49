use Rattle.cv_rule_birthday.proofs.WorkedBirthdays.{each}
use Rattle.cv_rule_birthday.proofs.worked_birthdays.Goals as goal

pub returns : goal.returns
returns c = each
