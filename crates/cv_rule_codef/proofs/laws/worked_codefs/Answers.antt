use Rattle.cv_rule_codef.proofs.WorkedCodefs.{each}
use Rattle.cv_rule_codef.proofs.laws.worked_codefs.Goals as goal

pub returns : goal.returns
returns c = each
