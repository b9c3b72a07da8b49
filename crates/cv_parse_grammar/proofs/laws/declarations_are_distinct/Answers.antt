use Rattle.cv_parse_grammar.proofs.Identities.{ids_are_distinct}
use Rattle.cv_parse_grammar.proofs.laws.declarations_are_distinct.Goals as goal

pub returns : goal.returns
returns c = λ ts ds s g w. ids_are_distinct ts ds s g w
