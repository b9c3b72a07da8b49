use Rattle.cv_rule_pick_laws.proofs.WorkedPicks.{each}
use Rattle.cv_rule_pick_laws.proofs.laws.worked_picks.Goals as goal

pub returns : goal.returns
returns c = each
