use Rattle.cv_step_writer.proofs.Making.{over_three}
use Rattle.cv_step_writer.proofs.parts.steps.push_cells.Goals as goal

pub returns : goal.returns
returns c = over_three _ _ _ _ _ _ _ _ _ _ c.in_ok-push_term.ensures c.in_ok-push_term-2.ensures c.in_ok-push_standing.ensures c.in_ok-push.ensures.items c.in_ok-push-2.ensures.items
