use Rattle.cv_alone.proofs.Walking.{IsLeft}
use Rattle.cv_alone.proofs.leave.leave_out.Given as goal

abbrev pub invariant-tokens : goal.invariant-tokens
invariant-tokens l = IsLeft l.number l.tokens l.fn.bytes l.reading l.bytes l.k
