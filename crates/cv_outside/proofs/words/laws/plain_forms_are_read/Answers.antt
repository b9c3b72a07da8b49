use Rattle.cv_outside.proofs.words.Plain.{plain_is_read}
use Rattle.cv_outside.proofs.words.laws.plain_forms_are_read.Goals as goal

pub returns : goal.returns
returns c = plain_is_read
