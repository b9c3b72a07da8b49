use Rattle.cv_context_right_side.proofs.texts.Worked.{tagged}
use Rattle.cv_context_right_side.proofs.texts.worked_text.Goals as goal

pub returns : goal.returns
returns c i = tagged i
