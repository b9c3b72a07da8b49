use Rattle.std.proofs.Common.{refl}
use Rattle.cv_parse_notation.specs.Reads.{read_sort}
use Rattle.cv_parse_grammar.specs.Worked.{nested}
use Rattle.cv_parse_grammar.proofs.depth.Files.{nested_too_deep}
use Rattle.cv_parse_grammar.proofs.depth.Parentheses.{parentheses_depth}
use Rattle.cv_parse_grammar.proofs.depth.worked_depths.Goals as goal

pub returns-clause-parentheses : goal.returns-clause-parentheses
returns-clause-parentheses c = λ n behind. parentheses_depth n behind

pub returns-clause-refused : goal.returns-clause-refused
unfolding read_sort
returns-clause-refused c = nested_too_deep (nested 200) 201 201 refl refl
