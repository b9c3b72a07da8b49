use Rattle.cv_typing_runs.proofs.Games.{typed_runs}
use Rattle.cv_typing_runs.proofs.typed_games_have_typed_runs.Goals as goal

pub returns : goal.returns
returns c = typed_runs
