use Rattle.cv_syntax.specs.Walks.{above}
use Rattle.cv_settling.proofs.matching.+is_put.Given as goal

abbrev pub decreases-is_put : goal.decreases-is_put
decreases-is_put l = above l.pattern
