use Rattle.cv_print_scripts.proofs.steps.Rows.{tree_single}
use Rattle.cv_print_scripts.proofs.steps.signs_are_read_back.Goals as goal

pub returns : goal.returns
returns c = λ words table known e n m r t rest d i l s q. (tree_single words table known e n r t d i).spells m l rest s q
