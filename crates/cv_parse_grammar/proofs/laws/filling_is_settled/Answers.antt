use Rattle.cv_parse_grammar.proofs.Filling.{refilled}
use Rattle.cv_parse_grammar.proofs.laws.filling_is_settled.Goals as goal

pub returns : goal.returns
returns c = λ sites now text. refilled sites now text
