use Rattle.cv_syntax.specs.Walks.{above}
use Rattle.cv_inline.proofs.terms.parts.+copy.Given as goal

abbrev pub decreases-copy : goal.decreases-copy
decreases-copy l = above l.part
