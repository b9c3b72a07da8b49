use Rattle.cv_rule_move.proofs.merge.Sound.{merge_sound}
use Rattle.cv_rule_move.proofs.merge.laws.merging_is_sound.Goals as goal

pub returns : goal.returns
returns c = merge_sound
