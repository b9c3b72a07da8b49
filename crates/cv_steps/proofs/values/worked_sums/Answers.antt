use Rattle.std.proofs.Common.{refl}
use Rattle.std.specs.Fmt.{digits}
use Rattle.cv_bound.specs.Sums.{merged, with_terms}
use Rattle.cv_steps.proofs.values.worked_sums.Goals as goal

pub returns-clause-events : goal.returns-clause-events
unfolding merged with_terms digits
returns-clause-events c = refl

pub returns-clause-secrecy : goal.returns-clause-secrecy
unfolding merged with_terms digits
returns-clause-secrecy c = refl

pub returns-clause-added : goal.returns-clause-added
unfolding merged with_terms digits
returns-clause-added c = refl
