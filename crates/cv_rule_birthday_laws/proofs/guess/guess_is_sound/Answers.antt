use Rattle.cv_rule_birthday_laws.proofs.guess.Sound.{guess_sound}
use Rattle.cv_rule_birthday_laws.proofs.guess.guess_is_sound.Goals as goal

pub returns : goal.returns
returns c = guess_sound
