use Rattle.cv_inline.proofs.bodies.Served.{call_keeps}
use Rattle.cv_inline.proofs.bodies.a_call_keeps_the_memories_related.Goals as goal

pub returns : goal.returns
returns c = call_keeps
