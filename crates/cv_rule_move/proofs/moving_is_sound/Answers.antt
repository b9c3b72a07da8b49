use Rattle.cv_rule_move.proofs.Sound.{move_sound}
use Rattle.cv_rule_move.proofs.moving_is_sound.Goals as goal

pub returns : goal.returns
returns c = move_sound
