use Rattle.cv_query_secrets.proofs.names.Ends.{raised_above}
use Rattle.cv_query_secrets.proofs.names.raised_names_are_new.Goals as goal

pub returns : goal.returns
returns c = raised_above
