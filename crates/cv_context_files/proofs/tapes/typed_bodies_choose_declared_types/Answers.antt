use Rattle.cv_context_files.proofs.tapes.Fixed.{bodies_choose_declared}
use Rattle.cv_context_files.proofs.tapes.typed_bodies_choose_declared_types.Goals as goal

pub returns : goal.returns
returns c = bodies_choose_declared
