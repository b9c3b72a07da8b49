use Rattle.cv_print_bytes.proofs.terminals.Back.{term_back, term_read}
use Rattle.cv_print_bytes.proofs.terminals.terms_are_read_back.Goals as goal

pub returns-clause-spelled : goal.returns-clause-spelled
returns-clause-spelled c = λ n t rest w l e. term_back n t rest w l e

pub returns-clause-computed : goal.returns-clause-computed
returns-clause-computed c = λ n t w l. term_read n t w l
