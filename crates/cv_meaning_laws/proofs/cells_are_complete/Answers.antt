use Rattle.cv_meaning_laws.proofs.Listed.{cells_distinct, consulted_listed}
use Rattle.cv_meaning_laws.proofs.cells_are_complete.Goals as goal

pub returns-clause-distinct : goal.returns-clause-distinct
returns-clause-distinct c = cells_distinct

pub returns-clause-listed : goal.returns-clause-listed
returns-clause-listed c = consulted_listed
