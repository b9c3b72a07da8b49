use Rattle.cv_settling_laws.proofs.Rewritten.{instance_derived, truth_derived}
use Rattle.cv_settling_laws.proofs.rewritings_are_derived.Goals as goal

pub returns-clause-truths : goal.returns-clause-truths
returns-clause-truths c = truth_derived

pub returns-clause-instances : goal.returns-clause-instances
returns-clause-instances c = instance_derived
