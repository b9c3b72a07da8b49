use Rattle.cv_steps_laws.proofs.renaming.Chances.{chances_under}
use Rattle.cv_steps_laws.proofs.renaming.games_under_other_names_have_equal_chances.Goals as goal

pub returns : goal.returns
returns c = chances_under
