use Rattle.cv_scope_runs.proofs.KeysListed.{keys_listed}
use Rattle.cv_scope_runs.proofs.consulted_keys_are_listed.Goals as goal

pub returns : goal.returns
returns c = keys_listed
