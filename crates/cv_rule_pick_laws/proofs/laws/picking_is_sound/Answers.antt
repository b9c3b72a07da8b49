use Rattle.cv_rule_pick_laws.proofs.Sound.{pick_sound}
use Rattle.cv_rule_pick_laws.proofs.laws.picking_is_sound.Goals as goal

pub returns : goal.returns
returns c = pick_sound
