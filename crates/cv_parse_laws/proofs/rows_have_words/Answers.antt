use Rattle.cv_parse_grammar.specs.Rules.{heads, rule}
use Rattle.cv_parse_laws.specs.Words.{WordsOfSort}
use Rattle.cv_parse_laws.proofs.WordRows.{rows}
use Rattle.cv_parse_laws.proofs.Tokens.{sorts_tell}
use Rattle.cv_parse_laws.proofs.rows_have_words.Goals as goal

pub returns : goal.returns
returns c = λ n s ts t us rest d w. (sorts_tell WordsOfSort heads rule rows n s ts t us rest d w).0
