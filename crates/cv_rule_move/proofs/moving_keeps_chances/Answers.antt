use Rattle.cv_rule_move.proofs.Keeping.{moves}
use Rattle.cv_rule_move.proofs.moving_keeps_chances.Goals as goal

pub returns : goal.returns
returns c = moves
