use Rattle.cv_context_left_side.proofs.refusals.Whole.{apt_test}
use Rattle.cv_context_left_side.proofs.refusals.asked_experiments_test_no_key.Goals as goal

pub returns : goal.returns
returns c r x h a = apt_test r h x a
