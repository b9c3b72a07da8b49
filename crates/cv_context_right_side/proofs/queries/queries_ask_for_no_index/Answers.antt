use Rattle.cv_context_right_side.proofs.queries.Asked.{asked_no_index}
use Rattle.cv_context_right_side.proofs.queries.queries_ask_for_no_index.Goals as goal

pub returns : goal.returns
returns c = asked_no_index
