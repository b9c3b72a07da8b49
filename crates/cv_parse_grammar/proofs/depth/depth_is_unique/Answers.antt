use Rattle.cv_parse_grammar.specs.Rules.{file, heads, rule, tails}
use Rattle.cv_parse_grammar.specs.Terms.{term}
use Rattle.cv_parse_grammar.specs.depth.Files.{process}
use Rattle.cv_parse_grammar.proofs.depth.Fitting.{all_firm, file_fine, process_fine, term_fine}
use Rattle.cv_parse_grammar.proofs.depth.Uniqueness.{one_depth}
use Rattle.cv_parse_grammar.proofs.depth.depth_is_unique.Goals as goal

pub returns-clause-files : goal.returns-clause-files
returns-clause-files c = λ ts rest d e x y. one_depth heads tails rule all_firm file file_fine ts rest d e x y

pub returns-clause-games : goal.returns-clause-games
returns-clause-games c = λ ts rest d e x y. one_depth heads tails rule all_firm process process_fine ts rest d e x y

pub returns-clause-terms : goal.returns-clause-terms
returns-clause-terms c = λ ts rest d e x y. one_depth heads tails rule all_firm term term_fine ts rest d e x y
