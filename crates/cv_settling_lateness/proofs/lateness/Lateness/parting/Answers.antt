use Rattle.std.proofs.Common.{arith}
use Rattle.cv_syntax.proofs.Walking.{above_child, above_some}
use Rattle.cv_settling_lateness.proofs.lateness.Lateness.parting.Goals as goal

pub way-smaller : goal.way-smaller
way-smaller c =
    omega (arith, above_some c.way.down.here.at c.in-Some.n c.in-Some.is, above_child c.in-Some.n.0 c.in-Ok.next.here.at (c.in-Ok.ensures c.in-Some.n.0 c.in-Some-open.ensures.first c.in-Some-open.ensures.second))
