use Rattle.cv_group_rules.proofs.Calls.{accepted_calls}
use Rattle.cv_group_rules.proofs.calls_are_declared.Goals as goal

pub returns : goal.returns
returns c = λ symbols t which f a e. accepted_calls symbols t which f a e
