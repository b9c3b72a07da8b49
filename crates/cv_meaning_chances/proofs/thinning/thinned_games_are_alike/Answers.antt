use Rattle.cv_meaning_runs.specs.Replacement.{Process}
use Rattle.cv_meaning_chances.proofs.thinning.Alike.{runs_alike, holds_without}
use Rattle.cv_meaning_chances.proofs.thinning.Placed.{thinned_at}
use Rattle.cv_meaning_chances.proofs.thinning.thinned_games_are_alike.Goals as goal

pub returns-clause-runs : goal.returns-clause-runs
returns-clause-runs c = runs_alike

pub returns-clause-tests : goal.returns-clause-tests
returns-clause-tests c = holds_without

pub returns-clause-local : goal.returns-clause-local
returns-clause-local c xs old new game next place k e z = thinned_at xs old new place k Process 0 game next e z
