use Rattle.cv_match_laws.proofs.instances.Calls.{call_found}
use Rattle.cv_match_laws.proofs.instances.calls_are_of_instances.Goals as goal

pub returns : goal.returns
returns c = call_found
