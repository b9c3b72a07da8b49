use Rattle.cv_context_files.proofs.forms.Files.{left_forms}
use Rattle.cv_context_files.proofs.forms.equivalences_of_files_have_left_forms.Goals as goal

pub returns : goal.returns
returns c = left_forms
