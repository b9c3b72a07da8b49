use Rattle.cv_settling_candidates.proofs.Truths.{truths_true}
use Rattle.cv_settling_candidates.proofs.truths_are_equations.Goals as goal

pub returns : goal.returns
returns c = truths_true
