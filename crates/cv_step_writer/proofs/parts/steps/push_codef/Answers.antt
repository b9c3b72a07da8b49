use Rattle.cv_step_writer.proofs.Making.{over_three}
use Rattle.cv_step_writer.proofs.parts.steps.push_codef.Goals as goal

pub returns : goal.returns
returns c = over_three _ _ _ _ _ _ _ _ _ _ c.in_ok-push_number.ensures c.in_ok-push_change.ensures c.in_ok-push_cells.ensures c.in_ok-push.ensures.items c.in_ok-push-2.ensures.items
