use Rattle.cv_context_files.proofs.tapes.Sides.{call_values, key_value}
use Rattle.cv_context_files.proofs.tapes.sides_choose_among_values.Goals as goal

pub returns-clause-key : goal.returns-clause-key
returns-clause-key c ds i e which sat h = key_value ds i sat e which h

pub returns-clause-cells : goal.returns-clause-cells
returns-clause-cells c ds i e which sat h n = call_values ds i sat e which h n
