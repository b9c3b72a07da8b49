use Rattle.cv_follow_laws.proofs.Settled.{one_text}
use Rattle.cv_follow_laws.proofs.settled_reports_are_one.Goals as goal

pub returns : goal.returns
returns c = λ source r q f g w v a s h k. one_text source r q f g w v a s h k
