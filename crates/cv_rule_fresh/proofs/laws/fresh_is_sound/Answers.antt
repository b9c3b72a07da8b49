use Rattle.cv_rule_fresh.proofs.Sound.{fresh_sound}
use Rattle.cv_rule_fresh.proofs.laws.fresh_is_sound.Goals as goal

pub returns : goal.returns
returns c = fresh_sound
