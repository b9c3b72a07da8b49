use Rattle.cv_context_right_side.proofs.queries.Steps.{last_asks_none}
use Rattle.cv_context_right_side.proofs.queries.sequences_ask_for_no_index.Goals as goal

pub returns : goal.returns
returns c = last_asks_none
