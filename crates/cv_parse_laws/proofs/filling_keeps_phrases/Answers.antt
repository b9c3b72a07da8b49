use Rattle.cv_parse_laws.proofs.Filling.{filled_is}
use Rattle.cv_parse_laws.proofs.filling_keeps_phrases.Goals as goal

pub returns : goal.returns
returns c = λ barred sites now φ t w. filled_is sites now φ t w
