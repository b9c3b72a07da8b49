use Rattle.cv_typing_runs.proofs.Games.{known}
use Rattle.cv_typing_runs.proofs.names_in_scope_are_known.Goals as goal

pub returns : goal.returns
returns c = known
