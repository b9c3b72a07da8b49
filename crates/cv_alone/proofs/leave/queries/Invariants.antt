use Rattle.cv_alone.proofs.Walking.{IsRead}
use Rattle.cv_alone.proofs.leave.queries.Given as goal

abbrev pub invariant-tokens : goal.invariant-tokens
invariant-tokens l = IsRead l.tokens l.reading l.k
