use Rattle.cv_rule_fresh.proofs.Keeping.{misses}
use Rattle.cv_rule_fresh.proofs.laws.fresh_values_are_missed.Goals as goal

pub returns : goal.returns
returns c = misses
