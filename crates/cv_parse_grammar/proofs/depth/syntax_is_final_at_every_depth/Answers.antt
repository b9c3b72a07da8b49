use Rattle.cv_parse_notation.proofs.Complete.{outside_next}
use Rattle.cv_parse_notation.specs.Fits.{goes_on}
use Rattle.cv_parse_grammar.specs.Rules.{file, heads, rule, tails}
use Rattle.cv_parse_grammar.specs.Terms.{term}
use Rattle.cv_parse_grammar.specs.depth.Files.{process}
use Rattle.cv_parse_grammar.proofs.depth.Fitting.{all_firm, file_fine, process_fine, term_fine}
use Rattle.cv_parse_grammar.proofs.depth.Laws.{before_dead, whole_dead}
use Rattle.cv_parse_grammar.proofs.depth.syntax_is_final_at_every_depth.Goals as goal

pub returns-clause-files : goal.returns-clause-files
returns-clause-files c = λ n m ts left e. whole_dead heads tails rule all_firm file file_fine n m ts left e

pub returns-clause-games : goal.returns-clause-games
returns-clause-games c = λ n m ts left e. whole_dead heads tails rule all_firm process process_fine n m ts left e

pub returns-clause-terms : goal.returns-clause-terms
returns-clause-terms c = λ barred wide n m ts left e. before_dead heads tails rule all_firm term term_fine barred (outside_next (goes_on heads tails term) barred wide) n m ts left e
