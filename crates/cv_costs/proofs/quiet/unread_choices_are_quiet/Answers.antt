use Rattle.cv_costs.proofs.quiet.Chosen.{quiet}
use Rattle.cv_costs.proofs.quiet.unread_choices_are_quiet.Goals as goal

pub returns : goal.returns
returns c = quiet
