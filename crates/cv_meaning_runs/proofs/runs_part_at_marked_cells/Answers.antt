use Rattle.cv_meaning_runs.proofs.Together.{moments_up_to, visits_up_to, marked_same, unmarked_same}
use Rattle.cv_meaning_runs.proofs.runs_part_at_marked_cells.Goals as goal

pub returns-clause-moments : goal.returns-clause-moments
returns-clause-moments c = moments_up_to

pub returns-clause-visits : goal.returns-clause-visits
returns-clause-visits c = visits_up_to

pub returns-clause-flag : goal.returns-clause-flag
returns-clause-flag c = marked_same

pub returns-clause-unmarked : goal.returns-clause-unmarked
returns-clause-unmarked c = unmarked_same
