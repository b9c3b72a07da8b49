use Rattle.std.proofs.Common.{length}
use Rattle.cv_inline.proofs.terms.reading.+index_terms.Given as goal

abbrev pub decreases-index_terms : goal.decreases-index_terms
decreases-index_terms l = length l.replications.now
