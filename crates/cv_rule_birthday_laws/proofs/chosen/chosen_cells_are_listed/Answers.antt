use Rattle.cv_rule_birthday_laws.proofs.chosen.Assigned.{assigned_listed}
use Rattle.cv_rule_birthday_laws.proofs.chosen.Pairs.{choices_listed}
use Rattle.cv_rule_birthday_laws.proofs.chosen.chosen_cells_are_listed.Goals as goal

pub returns-clause-choices : goal.returns-clause-choices
returns-clause-choices c = λ ds i m a game x type v well typed news first sort. choices_listed ds i m a game x type v well typed news first sort

pub returns-clause-assigned : goal.returns-clause-assigned
returns-clause-assigned c = assigned_listed
