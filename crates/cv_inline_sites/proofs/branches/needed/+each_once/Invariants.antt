use Rattle.std.proofs.Common.{length}
use Rattle.cv_inline_sites.proofs.branches.needed.+each_once.Given as goal

abbrev pub decreases-each_once : goal.decreases-each_once
decreases-each_once l = length l.cells.now
