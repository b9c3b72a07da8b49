use Rattle.cv_typing_runs.proofs.Games.{restrictions, typed}
use Rattle.cv_typing_runs.proofs.accepted_games_are_typed.Goals as goal

pub returns-clause-typed : goal.returns-clause-typed
returns-clause-typed c = typed

pub returns-clause-restrictions : goal.returns-clause-restrictions
returns-clause-restrictions c = restrictions
