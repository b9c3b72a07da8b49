use Rattle.cv_inline_draws.proofs.callings.Agreement.{have_functions}
use Rattle.cv_inline_draws.proofs.callings.laws.equivalences_have_right_functions.Goals as goal

pub returns : goal.returns
returns c = have_functions
