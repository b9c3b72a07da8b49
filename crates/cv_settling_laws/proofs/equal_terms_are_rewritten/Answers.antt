use Rattle.cv_settling_laws.proofs.Judged.{instance_refused, truth_refused}
use Rattle.cv_settling_laws.proofs.equal_terms_are_rewritten.Goals as goal

pub returns-clause-truths : goal.returns-clause-truths
returns-clause-truths c = truth_refused

pub returns-clause-instances : goal.returns-clause-instances
returns-clause-instances c = instance_refused
