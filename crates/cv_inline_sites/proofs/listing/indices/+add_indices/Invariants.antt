use Rattle.std.proofs.Common.{length}
use Rattle.cv_inline_sites.proofs.listing.indices.+add_indices.Given as goal

abbrev pub decreases-add_indices : goal.decreases-add_indices
decreases-add_indices l = length l.replications.now
