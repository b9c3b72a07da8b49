use Rattle.cv_rule_move.proofs.merge.WorkedMerges.{each}
use Rattle.cv_rule_move.proofs.merge.laws.worked_merges.Goals as goal

pub returns : goal.returns
returns c = each
