use Rattle.cv_parse_laws.proofs.WordFilling.{filled_words}
use Rattle.cv_parse_laws.proofs.filling_keeps_words.Goals as goal

pub returns : goal.returns
returns c = λ sites now t w e. filled_words sites now t w e
