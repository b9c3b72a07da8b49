use Rattle.cv_syntax.specs.Walks.{above}
use Rattle.cv_derive_reasons.proofs.substitution.instances.+same_instance.Given as goal

abbrev pub decreases-same_instance : goal.decreases-same_instance
decreases-same_instance l = above l.pattern
