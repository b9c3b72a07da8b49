use Rattle.std.proofs.Common.{length}
use Rattle.cv_inline_sites.proofs.branches.branch.+binders.Given as goal

abbrev pub decreases-binders : goal.decreases-binders
decreases-binders l = length l.others.now
