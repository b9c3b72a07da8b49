use Rattle.cv_print_scripts.proofs.Texts.{row_is_read}
use Rattle.cv_print_scripts.proofs.texts_are_read_back.Goals as goal

pub returns : goal.returns
returns c = λ table names n r t e i p are k d. row_is_read table names n r t e i p are k d
