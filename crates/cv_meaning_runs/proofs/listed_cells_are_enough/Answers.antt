use Rattle.cv_meaning_runs.proofs.Listed.{cells_listed, listed_same, no_keys_consulted}
use Rattle.cv_meaning_runs.proofs.listed_cells_are_enough.Goals as goal

pub returns-clause-listed : goal.returns-clause-listed
returns-clause-listed c = cells_listed

pub returns-clause-same : goal.returns-clause-same
returns-clause-same c = listed_same

pub returns-clause-without_calls : goal.returns-clause-without_calls
returns-clause-without_calls c = no_keys_consulted
