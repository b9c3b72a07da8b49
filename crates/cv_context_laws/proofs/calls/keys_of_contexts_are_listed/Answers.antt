use Rattle.cv_context_laws.proofs.calls.Keys.{listed_keys}
use Rattle.cv_context_laws.proofs.calls.keys_of_contexts_are_listed.Goals as goal

pub returns : goal.returns
returns c = listed_keys
