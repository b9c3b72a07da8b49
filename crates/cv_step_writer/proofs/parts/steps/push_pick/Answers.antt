use Rattle.cv_step_writer.proofs.Making.{over_four}
use Rattle.cv_step_writer.proofs.parts.steps.push_pick.Goals as goal

pub returns : goal.returns
returns c = over_four _ _ _ _ _ _ _ _ _ _ _ _ _ c.in_ok-push_number.ensures c.in_ok-push_terms.ensures c.in_ok-push_lines.ensures c.in_ok-push_lines-2.ensures c.in_ok-push.ensures.items c.in_ok-push-2.ensures.items c.in_ok-push-3.ensures.items
