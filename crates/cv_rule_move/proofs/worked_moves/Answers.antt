use Rattle.cv_rule_move.proofs.WorkedMoves.{each}
use Rattle.cv_rule_move.proofs.worked_moves.Goals as goal

pub returns : goal.returns
returns c = each
