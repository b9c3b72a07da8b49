use Rattle.cv_context_laws.proofs.calls.Games.{game_calls}
use Rattle.cv_context_laws.proofs.calls.calls_of_contexts_are_of_sites.Goals as goal

pub returns : goal.returns
returns c = game_calls
