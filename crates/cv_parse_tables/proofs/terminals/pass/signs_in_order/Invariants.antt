use Rattle.cv_parse_tables.proofs.terminals.Walk.{IsReached}
use Rattle.cv_parse_tables.proofs.terminals.pass.signs_in_order.Given as goal

abbrev pub invariant-loop-k : goal.invariant-loop-k
invariant-loop-k l = IsReached l.fn.names l.tokens l.from l.signs.items l.names l.counts l.k
