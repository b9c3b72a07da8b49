use Rattle.cv_rule_birthday_laws.proofs.chosen.Runs.{all_drawn, last_drawn}
use Rattle.cv_rule_birthday_laws.proofs.chosen.chosen_values_are_drawn.Goals as goal

pub returns-clause-visits : goal.returns-clause-visits
returns-clause-visits c = λ ds g m a game t x v constants well news first. all_drawn ds g m a game t x v constants well news first

pub returns-clause-last : goal.returns-clause-last
returns-clause-last c = λ ds g m a game t x v constants well news first. last_drawn ds g m a game t x v constants well news first
