use Rattle.cv_settling_rules.proofs.Truths.{among_sides}
use Rattle.cv_settling_rules.proofs.truths_are_listed.Goals as goal

pub returns : goal.returns
returns c = among_sides
