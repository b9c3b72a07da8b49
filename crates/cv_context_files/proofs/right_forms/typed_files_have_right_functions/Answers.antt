use Rattle.cv_context_files.proofs.right_forms.TypedFiles.{right}
use Rattle.cv_context_files.proofs.right_forms.typed_files_have_right_functions.Goals as goal

pub returns : goal.returns
returns c = right
