use Rattle.cv_meaning_runs.proofs.Outputs.{decided_alike}
use Rattle.cv_meaning_runs.proofs.a_decided_if_serves_as_its_body.Goals as goal

pub returns : goal.returns
returns c = decided_alike
