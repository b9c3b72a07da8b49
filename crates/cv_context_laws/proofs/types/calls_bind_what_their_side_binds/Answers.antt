use Rattle.cv_context_laws.proofs.types.Own.{no_own}
use Rattle.cv_context_laws.proofs.types.calls_bind_what_their_side_binds.Goals as goal

pub returns : goal.returns
returns c = no_own
