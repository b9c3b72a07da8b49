use Rattle.cv_parse_tables.proofs.terminals.RightSides.{IsMarked}
use Rattle.cv_parse_tables.proofs.terminals.openings.mark_events.Given as goal

abbrev pub invariant-signs : goal.invariant-signs
invariant-signs l = IsMarked l.fn.signs l.signs l.closings l.k

abbrev pub decreases-signs : goal.decreases-signs
decreases-signs l = l.k
