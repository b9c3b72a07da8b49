use Rattle.cv_steps_laws.proofs.WorkedSteps.{back, each, each_rename, each_unlet, game, games, knows, not_dropped, renamed_games}
use Rattle.cv_steps_laws.proofs.worked_steps.Goals as goal

pub returns-clause-game : goal.returns-clause-game
returns-clause-game c = game

pub returns-clause-cases : goal.returns-clause-cases
returns-clause-cases c = each

pub returns-clause-asked : goal.returns-clause-asked
returns-clause-asked c = not_dropped

pub returns-clause-knows : goal.returns-clause-knows
returns-clause-knows c = knows

pub returns-clause-back : goal.returns-clause-back
returns-clause-back c = back

pub returns-clause-unlets : goal.returns-clause-unlets
returns-clause-unlets c = each_unlet

pub returns-clause-assigned : goal.returns-clause-assigned
returns-clause-assigned c = games

pub returns-clause-renames : goal.returns-clause-renames
returns-clause-renames c = each_rename

pub returns-clause-renamed : goal.returns-clause-renamed
returns-clause-renamed c = renamed_games
