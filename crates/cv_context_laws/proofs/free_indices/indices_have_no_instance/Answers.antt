use Rattle.cv_context_laws.proofs.free_indices.Free.{game_free}
use Rattle.cv_context_laws.proofs.free_indices.indices_have_no_instance.Goals as goal

pub returns : goal.returns
returns c = game_free
