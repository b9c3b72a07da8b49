use Rattle.cv_syntax.specs.Walks.{above}
use Rattle.cv_inline_sites.proofs.branches.key.+condition.Given as goal

abbrev pub decreases-condition : goal.decreases-condition
decreases-condition l = above l.left
