use Rattle.cv_rule_array_names.proofs.WorkedSplits.{each}
use Rattle.cv_rule_array_names.proofs.laws.worked_splits.Goals as goal

pub returns : goal.returns
returns c = each
