use Rattle.cv_parse_laws.proofs.Signs.{signs_named}
use Rattle.cv_parse_laws.proofs.names_are_told_from_bool.Goals as goal

pub returns : goal.returns
returns c = λ tokens. signs_named tokens
