use Rattle.std.proofs.Common.{IsTrue}
use Rattle.cv_parse_grammar.specs.Rules.{heads, rule}
use Rattle.cv_parse_grammar.proofs.yields.Yielding.{sorts_tell}
use Rattle.cv_parse_grammar.proofs.yields.rows_are_enough.Goals as goal

pub returns : goal.returns
returns c = λ named has rows. sorts_tell (λ r x. IsTrue (named r x)) (λ z a. IsTrue (has z a)) heads rule rows
