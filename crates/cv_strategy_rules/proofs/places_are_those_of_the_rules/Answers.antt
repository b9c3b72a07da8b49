use Rattle.cv_strategy_rules.proofs.Placed.{compared_are, equalities_are, guessed_are}
use Rattle.cv_strategy_rules.proofs.places_are_those_of_the_rules.Goals as goal

pub returns-clause-birthday : goal.returns-clause-birthday
returns-clause-birthday c = compared_are

pub returns-clause-guess : goal.returns-clause-guess
returns-clause-guess c = guessed_are

pub returns-clause-fresh : goal.returns-clause-fresh
returns-clause-fresh c = equalities_are
