use Rattle.cv_settling_measures.proofs.Orphaned.{none_found, some_found}
use Rattle.cv_settling_measures.proofs.orphans_are_found.Goals as goal

pub returns-clause-none : goal.returns-clause-none
returns-clause-none c = none_found

pub returns-clause-some : goal.returns-clause-some
returns-clause-some c = some_found
