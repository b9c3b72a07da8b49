use Rattle.cv_query_form.proofs.Counts.{counted}
use Rattle.cv_query_form.proofs.laws.alternatives_are_counted.Goals as goal

pub returns : goal.returns
returns c = counted 1
