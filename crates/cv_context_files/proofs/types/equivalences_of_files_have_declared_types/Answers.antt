use Rattle.cv_context_files.proofs.types.Files.{types_declared}
use Rattle.cv_context_files.proofs.types.equivalences_of_files_have_declared_types.Goals as goal

pub returns : goal.returns
returns c = types_declared
