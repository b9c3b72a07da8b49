use Rattle.cv_parse_sorts.proofs.queries.Closed.{queries_closed}
use Rattle.cv_parse_sorts.proofs.queries.files_have_closed_queries.Goals as goal

pub returns : goal.returns
returns c = queries_closed
