use Rattle.cv_rule_move.proofs.Declared.{moves_declared}
use Rattle.cv_rule_move.proofs.moving_keeps_declared_sorts.Goals as goal

pub returns : goal.returns
returns c = moves_declared
