use Rattle.cv_query_certificates.proofs.Deciding.{decided}
use Rattle.cv_query_certificates.proofs.accepted_exactly_where_nothing_fails.Goals as goal

pub returns : goal.returns
returns c = decided
