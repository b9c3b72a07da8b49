use Rattle.cv_match_laws.proofs.names.Bindings.{only_by_new}
use Rattle.cv_match_laws.proofs.names.variables_with_one_new_are_bound_by_it_alone.Goals as goal

pub returns : goal.returns
returns c x t d e = only_by_new x t d e
