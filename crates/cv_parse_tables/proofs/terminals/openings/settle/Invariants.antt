use Rattle.cv_parse_tables.proofs.terminals.RightSides.{IsSettled}
use Rattle.cv_parse_tables.proofs.terminals.openings.settle.Given as goal

abbrev pub invariant-signs : goal.invariant-signs
invariant-signs l = IsSettled l.fn.signs l.signs l.place l.k
