use Rattle.cv_query_injections.proofs.values.Valued.{valued}
use Rattle.cv_query_injections.proofs.values.accepted_certificates_cost_a_number.Goals as goal

pub returns : goal.returns
returns c = valued
