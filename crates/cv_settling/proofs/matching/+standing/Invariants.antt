use Rattle.cv_syntax.specs.Walks.{above}
use Rattle.cv_settling.proofs.matching.+standing.Given as goal

abbrev pub decreases-standing : goal.decreases-standing
decreases-standing l = above l.pattern
