use Rattle.cv_context_runs.proofs.service.Runs.{chances_in_context, holds_in_context}
use Rattle.cv_context_runs.proofs.service.contexts_are_served_as_their_games.Goals as goal

pub returns-clause-tests : goal.returns-clause-tests
returns-clause-tests c r i x a t fine e = holds_in_context r fine i t x a e

pub returns-clause-chances : goal.returns-clause-chances
returns-clause-chances c r i x a fine e f d = chances_in_context r fine i x a e f d
