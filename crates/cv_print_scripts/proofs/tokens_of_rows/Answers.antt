use Rattle.cv_print_scripts.proofs.Texts.{ended_has_signs, row_has_signs}
use Rattle.cv_print_scripts.proofs.tokens_of_rows.Goals as goal

pub returns-clause-alone : goal.returns-clause-alone
returns-clause-alone c = λ table names n r t e are k. row_has_signs table names n r t e are k

pub returns-clause-ended : goal.returns-clause-ended
returns-clause-ended c = λ table names n r t e are k. ended_has_signs table names n r t e are k
