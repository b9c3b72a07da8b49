use Rattle.cv_syntax.specs.Walks.{above}
use Rattle.cv_inline_sites.proofs.branches.moving.+moved.Given as goal

abbrev pub decreases-moved : goal.decreases-moved
decreases-moved l = above l.term
