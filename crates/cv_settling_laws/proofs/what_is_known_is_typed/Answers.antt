use Rattle.cv_settling_laws.proofs.Places.{cells_typed, facts_typed}
use Rattle.cv_settling_laws.proofs.Rewritten.{terms_typed}
use Rattle.cv_settling_laws.proofs.what_is_known_is_typed.Goals as goal

pub returns-clause-facts : goal.returns-clause-facts
returns-clause-facts c = facts_typed

pub returns-clause-cells : goal.returns-clause-cells
returns-clause-cells c = cells_typed

pub returns-clause-terms : goal.returns-clause-terms
returns-clause-terms c = terms_typed
