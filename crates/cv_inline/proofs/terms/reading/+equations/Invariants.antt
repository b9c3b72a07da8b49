use Rattle.std.proofs.Common.{length}
use Rattle.cv_inline.proofs.terms.reading.+equations.Given as goal

abbrev pub decreases-equations : goal.decreases-equations
decreases-equations l = length l.xs.now
