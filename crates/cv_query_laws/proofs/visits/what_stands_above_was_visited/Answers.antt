use Rattle.cv_query_laws.proofs.visits.Above.{was_visited}
use Rattle.cv_query_laws.proofs.visits.what_stands_above_was_visited.Goals as goal

pub returns : goal.returns
returns c = was_visited
