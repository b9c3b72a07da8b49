use Rattle.cv_rule_birthday_laws.proofs.chosen.Pairs.{rare}
use Rattle.cv_rule_birthday_laws.proofs.chosen.equal_choices_are_rare.Goals as goal

pub returns : goal.returns
returns c = λ ds i m a game x type v well typed news first sort. rare ds i m a game x type v well typed news first sort
