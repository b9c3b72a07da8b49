use Rattle.cv_parse_grammar.specs.Rules.{file, heads, rule, tails}
use Rattle.cv_parse_grammar.specs.Terms.{term}
use Rattle.cv_parse_grammar.specs.depth.Files.{process}
use Rattle.cv_parse_grammar.proofs.depth.Fitting.{all_firm, file_fine, process_fine, term_fine}
use Rattle.cv_parse_grammar.proofs.depth.Laws.{before_deep, before_nesting, whole_deep, whole_nesting}
use Rattle.cv_parse_grammar.proofs.depth.nesting_is_depth.Goals as goal

pub returns-clause-files : goal.returns-clause-files
returns-clause-files c = λ n ts left. (whole_nesting heads tails rule all_firm file file_fine n ts left, whole_deep heads tails rule all_firm file file_fine n ts left)

pub returns-clause-games : goal.returns-clause-games
returns-clause-games c = λ n ts left. (whole_nesting heads tails rule all_firm process process_fine n ts left, whole_deep heads tails rule all_firm process process_fine n ts left)

pub returns-clause-terms : goal.returns-clause-terms
returns-clause-terms c = λ barred n ts left. (before_nesting heads tails rule all_firm term term_fine barred n ts left, before_deep heads tails rule all_firm term term_fine barred n ts left)
