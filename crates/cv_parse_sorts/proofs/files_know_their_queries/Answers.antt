use Rattle.cv_parse_sorts.proofs.Known.{queries_known}
use Rattle.cv_parse_sorts.proofs.files_know_their_queries.Goals as goal

pub returns : goal.returns
returns c = queries_known
