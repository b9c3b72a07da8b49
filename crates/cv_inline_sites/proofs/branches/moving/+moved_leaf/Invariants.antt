use Rattle.std.proofs.Common.{length}
use Rattle.cv_inline_sites.proofs.branches.moving.+moved_leaf.Given as goal

abbrev pub decreases-moved_leaf : goal.decreases-moved_leaf
decreases-moved_leaf l = length l.others.now
