use Rattle.cv_settling_descent.proofs.Refused.{orphan_refused, pruned_game_lowers}
use Rattle.cv_settling_descent.proofs.orphans_are_refused.Goals as goal

pub returns-clause-refused : goal.returns-clause-refused
returns-clause-refused c = orphan_refused

pub returns-clause-lower : goal.returns-clause-lower
returns-clause-lower c = pruned_game_lowers
