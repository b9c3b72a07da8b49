use Rattle.cv_rule_codef.proofs.Sound.{codef_sound}
use Rattle.cv_rule_codef.proofs.laws.codef_is_sound.Goals as goal

pub returns : goal.returns
returns c = codef_sound
