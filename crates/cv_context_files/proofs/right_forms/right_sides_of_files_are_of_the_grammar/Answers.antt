use Rattle.cv_context_files.proofs.right_forms.Files.{right_forms}
use Rattle.cv_context_files.proofs.right_forms.right_sides_of_files_are_of_the_grammar.Goals as goal

pub returns : goal.returns
returns c = right_forms
