use Rattle.cv_accept.proofs.Readings.{accepted}
use Rattle.cv_accept.proofs.laws.accepted_is_well_formed.Goals as goal

pub returns : goal.returns
returns c = λ limit bytes f e. accepted limit bytes f e
