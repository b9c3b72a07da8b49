use Rattle.cv_rule_birthday_laws.proofs.Sound.{birthday_sound}
use Rattle.cv_rule_birthday_laws.proofs.birthday_is_sound.Goals as goal

pub returns : goal.returns
returns c = birthday_sound
