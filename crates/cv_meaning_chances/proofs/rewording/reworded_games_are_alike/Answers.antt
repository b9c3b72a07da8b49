use Rattle.cv_meaning_chances.proofs.rewording.Alike.{holds_reworded, runs_alike}
use Rattle.cv_meaning_chances.proofs.rewording.SameCells.{reworded_chances, same_cells}
use Rattle.cv_meaning_chances.proofs.rewording.reworded_games_are_alike.Goals as goal

pub returns-clause-runs : goal.returns-clause-runs
returns-clause-runs e c = λ g m a game next t. runs_alike g (e.E.Expectation.visits t) m a game next t

pub returns-clause-tests : goal.returns-clause-tests
returns-clause-tests e c = λ g x a game next t. holds_reworded g (e.E.Expectation.visits t) x a game next t

pub returns-clause-cells : goal.returns-clause-cells
returns-clause-cells e c = λ g m a game next t z. same_cells g (e.E.Expectation.visits t) game next z m a

pub returns-clause-chances : goal.returns-clause-chances
returns-clause-chances e c = λ g x a game next. reworded_chances g e.E.Expectation.visits x a game next
