use Rattle.cv_parse_tables.proofs.terminals.FileTokens.{IsSigned}
use Rattle.cv_parse_tables.proofs.terminals.pass.read_signs.Given as goal

abbrev pub invariant-loop-k : goal.invariant-loop-k
invariant-loop-k l = IsSigned l.fn.names l.tokens l.signs.items l.names l.counts l.depth l.k
