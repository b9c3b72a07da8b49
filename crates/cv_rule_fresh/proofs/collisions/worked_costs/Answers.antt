use Rattle.cv_rule_fresh.proofs.collisions.WorkedCosts.{reached, row}
use Rattle.cv_rule_fresh.proofs.collisions.worked_costs.Goals as goal

pub returns-clause-row : goal.returns-clause-row
returns-clause-row c = row

pub returns-clause-reached : goal.returns-clause-reached
returns-clause-reached c = reached
