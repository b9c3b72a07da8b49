use Rattle.std.proofs.Common.{length}
use Rattle.cv_inline_sites.proofs.branches.moving.+moved_cells.Given as goal

abbrev pub decreases-moved_cells : goal.decreases-moved_cells
decreases-moved_cells l = length l.needed.now
