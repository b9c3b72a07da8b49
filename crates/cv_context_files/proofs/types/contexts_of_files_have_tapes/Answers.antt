use Rattle.cv_context_files.proofs.types.Files.{tapes_there}
use Rattle.cv_context_files.proofs.types.contexts_of_files_have_tapes.Goals as goal

pub returns : goal.returns
returns c = tapes_there
