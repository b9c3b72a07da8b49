use Rattle.cv_steps_laws.proofs.Keeping.{drops}
use Rattle.cv_steps_laws.proofs.unread_choices_may_go.Goals as goal

pub returns : goal.returns
returns c = drops
