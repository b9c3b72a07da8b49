use Rattle.cv_meaning_runs.proofs.Spots.{spots_distinct}
use Rattle.cv_meaning_runs.proofs.Once.{cells_once}
use Rattle.cv_meaning_runs.proofs.no_construct_is_visited_twice.Goals as goal

pub returns-clause-spots : goal.returns-clause-spots
returns-clause-spots c = spots_distinct

pub returns-clause-cells : goal.returns-clause-cells
returns-clause-cells c = cells_once
