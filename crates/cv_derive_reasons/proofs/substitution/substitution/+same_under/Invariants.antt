use Rattle.cv_syntax.specs.Walks.{above}
use Rattle.cv_derive_reasons.proofs.substitution.substitution.+same_under.Given as goal

abbrev pub decreases-same_under : goal.decreases-same_under
decreases-same_under l = above l.pattern
