use Rattle.cv_scope_rules.specs.Phrases.{Inputs}
use Rattle.cv_steps_laws.proofs.Gone.{dropped_game}
use Rattle.cv_steps.proofs.Comes.{placed}
use Rattle.cv_steps_laws.proofs.Unnamed.{dropped_phrase}
use Rattle.cv_steps_laws.proofs.changes_of_games.Goals as goal

pub returns-clause-placed : goal.returns-clause-placed
returns-clause-placed c = placed

pub returns-clause-without : goal.returns-clause-without
returns-clause-without c = dropped_game

pub returns-clause-phrase : goal.returns-clause-phrase
returns-clause-phrase c xs game e = dropped_phrase xs Inputs game e
