use Rattle.cv_print_scripts.proofs.Texts.{one_row, one_step}
use Rattle.cv_print_scripts.proofs.printing_is_injective.Goals as goal

pub returns-clause-rows : goal.returns-clause-rows
returns-clause-rows c = λ table names m n k r s t e i p one are f g x y v w same. one_row table names m n k r s t e i p one are f g x y v w same

pub returns-clause-steps : goal.returns-clause-steps
returns-clause-steps c = λ names m n k s t one are f g x y v w same. one_step names m n k s t one are f g x y v w same
