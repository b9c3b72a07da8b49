use Rattle.cv_rule_fresh.proofs.collisions.WorkedRows.{formed, rows}
use Rattle.cv_rule_fresh.proofs.collisions.worked_rows.Goals as goal

pub returns-clause-game : goal.returns-clause-game
returns-clause-game c = formed

pub returns-clause-cases : goal.returns-clause-cases
returns-clause-cases c = rows
