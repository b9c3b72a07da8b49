use Rattle.cv_parse_tables.proofs.terminals.ScriptWalk.{IsWorded}
use Rattle.cv_parse_tables.proofs.terminals.scripts.signs_between.Given as goal

abbrev pub invariant-loop-k : goal.invariant-loop-k
invariant-loop-k l = IsWorded l.fn.names l.tokens l.from l.to l.signs.items l.names l.counts l.k
