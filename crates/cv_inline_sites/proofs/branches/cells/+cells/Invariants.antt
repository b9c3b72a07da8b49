use Rattle.cv_syntax.specs.Walks.{above}
use Rattle.cv_inline_sites.proofs.branches.cells.+cells.Given as goal

abbrev pub decreases-cells : goal.decreases-cells
decreases-cells l = above l.list
