use Rattle.cv_meaning_runs.proofs.Places.{replaced_where}
use Rattle.cv_meaning_runs.proofs.replaced_where_a_service_comes.Goals as goal

pub returns : goal.returns
returns c = replaced_where
