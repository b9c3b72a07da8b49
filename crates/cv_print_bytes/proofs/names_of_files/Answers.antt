use Rattle.cv_print_bytes.proofs.Files.{names_of_file}
use Rattle.cv_print_bytes.proofs.names_of_files.Goals as goal

pub returns : goal.returns
returns c = λ ts are. names_of_file ts are
