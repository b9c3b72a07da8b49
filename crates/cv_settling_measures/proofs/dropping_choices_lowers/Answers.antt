use Rattle.cv_settling_measures.proofs.Dropping.{unnew_lowers}
use Rattle.cv_settling_measures.proofs.dropping_choices_lowers.Goals as goal

pub returns : goal.returns
returns c = unnew_lowers
