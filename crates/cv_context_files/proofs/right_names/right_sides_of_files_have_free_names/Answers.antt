use Rattle.cv_context_files.proofs.right_names.Files.{free_sides}
use Rattle.cv_context_files.proofs.right_names.right_sides_of_files_have_free_names.Goals as goal

pub returns : goal.returns
returns c = free_sides
