use Rattle.cv_step_writer.specs.Derivations.{IsLineBelow}
use Rattle.cv_direct.proofs.Below.{pushed}
use Rattle.cv_direct.proofs.proposing.lines.lines_of.Goals as goal

pub loop-line-preserved : goal.loop-line-preserved
loop-line-preserved c =
    λ n a. pushed (IsLineBelow n) c.loop-line.list.items c.push.new.self.items c.in_ok-next.next c.in_ok-push.ensures.items (c.loop-line.invariant n a) (c.in_ok-next.ensures n a)
