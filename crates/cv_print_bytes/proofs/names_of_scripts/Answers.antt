use Rattle.cv_print_bytes.proofs.Files.{names_of_script}
use Rattle.cv_print_bytes.proofs.names_of_scripts.Goals as goal

pub returns : goal.returns
returns c = λ names ts from to are known. names_of_script names ts from to are known
