use Rattle.cv_rule_array_names_laws.proofs.Sound.{array_names_sound}
use Rattle.cv_rule_array_names_laws.proofs.splitting_definitions_is_sound.Goals as goal

pub returns : goal.returns
returns c = array_names_sound
