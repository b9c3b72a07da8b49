use Rattle.std.proofs.Common.{length}
use Rattle.cv_inline.proofs.terms.reading.+tuple.Given as goal

abbrev pub decreases-tuple : goal.decreases-tuple
decreases-tuple l = length l.indices.now
