use Rattle.cv_step_writer.proofs.Making.{over_four}
use Rattle.cv_step_writer.proofs.parts.reasons.push_distinct.Goals as goal

pub returns : goal.returns
returns c = over_four _ _ _ _ _ _ _ _ _ _ _ _ _ c.in_ok-push_number.ensures c.in_ok-push_number-2.ensures c.in_ok-push_number-3.ensures c.in_ok-push_number-4.ensures c.in_ok-push.ensures.items c.in_ok-push-2.ensures.items c.in_ok-push-3.ensures.items
