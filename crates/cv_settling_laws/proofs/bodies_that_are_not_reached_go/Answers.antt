use Rattle.cv_settling_laws.proofs.Judged.{prune_leads, prune_refused}
use Rattle.cv_settling_laws.proofs.bodies_that_are_not_reached_go.Goals as goal

pub returns-clause-leads : goal.returns-clause-leads
returns-clause-leads c = prune_leads

pub returns-clause-refused : goal.returns-clause-refused
returns-clause-refused c = prune_refused
