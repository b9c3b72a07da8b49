use Rattle.cv_context_runs.proofs.instances.Terms.{only_terms}
use Rattle.cv_context_runs.proofs.instances.instances_are_terms.Goals as goal

pub returns : goal.returns
returns c = only_terms
