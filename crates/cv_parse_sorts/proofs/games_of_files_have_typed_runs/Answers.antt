use Rattle.cv_parse_sorts.proofs.TypedRuns.{typed_runs}
use Rattle.cv_parse_sorts.proofs.games_of_files_have_typed_runs.Goals as goal

pub returns : goal.returns
returns c = typed_runs
