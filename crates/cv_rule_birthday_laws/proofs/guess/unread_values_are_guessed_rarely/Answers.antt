use Rattle.cv_rule_birthday_laws.proofs.guess.Keeping.{guesses_cost}
use Rattle.cv_rule_birthday_laws.proofs.guess.unread_values_are_guessed_rarely.Goals as goal

pub returns : goal.returns
returns c = guesses_cost
