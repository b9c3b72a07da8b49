use Rattle.cv_scope_runs.proofs.Plain.{game_context, context_game}
use Rattle.cv_scope_runs.proofs.games_are_contexts.Goals as goal

pub returns-clause-games : goal.returns-clause-games
returns-clause-games c = game_context

pub returns-clause-contexts : goal.returns-clause-contexts
returns-clause-contexts c = context_game
