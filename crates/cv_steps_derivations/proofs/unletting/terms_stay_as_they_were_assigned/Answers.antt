use Rattle.cv_steps_derivations.proofs.unletting.Copies.{copied_game}
use Rattle.cv_steps_derivations.proofs.unletting.terms_stay_as_they_were_assigned.Goals as goal

pub returns : goal.returns
returns c = copied_game
