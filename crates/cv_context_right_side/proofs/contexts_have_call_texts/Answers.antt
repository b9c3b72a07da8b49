use Rattle.cv_context_right_side.proofs.CallTexts.{call_texts}
use Rattle.cv_context_right_side.proofs.contexts_have_call_texts.Goals as goal

pub returns : goal.returns
returns c = call_texts
