use Rattle.cv_parse_grammar.specs.Rules.{heads, rule}
use Rattle.cv_parse_laws.specs.Shapes.{IsFree, IsOfSort}
use Rattle.cv_parse_laws.proofs.Rows.{rows}
use Rattle.cv_parse_grammar.proofs.yields.Yielding.{sorts_tell}
use Rattle.cv_parse_laws.proofs.rows_make_phrases.Goals as goal

pub returns : goal.returns
returns c = λ barred n s ts t us rest d w. sorts_tell (IsFree barred) (IsOfSort barred) heads rule (rows barred) n s ts t us rest d w
