use Rattle.cv_print_bytes.proofs.terminals.Back.{part_back}
use Rattle.cv_print_bytes.proofs.terminals.processes_are_read_back.Goals as goal

pub returns : goal.returns
returns c = λ n finds t w l. part_back n finds t w l
