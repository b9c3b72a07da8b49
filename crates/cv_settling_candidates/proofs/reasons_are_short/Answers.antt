use Rattle.cv_settling_candidates.proofs.Few.{reason_is_short}
use Rattle.cv_settling_candidates.proofs.reasons_are_short.Goals as goal

pub returns : goal.returns
returns c = reason_is_short
