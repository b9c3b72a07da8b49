use Rattle.cv_context_left_side.proofs.refusals.Worked.{reducible}
use Rattle.cv_context_left_side.proofs.refusals.worked_reduction.Goals as goal

pub returns : goal.returns
returns c = reducible
