use Rattle.cv_print_back.proofs.TermExactness.{term_means, term_is_read}
use Rattle.cv_print_back.proofs.laws.reading_terms_is_exact.Goals as goal

pub returns-clause-says : goal.returns-clause-says
returns-clause-says c = λ limit live from signs t next. (term_means limit live from signs _, term_is_read limit live from signs t next)

pub returns-clause-syntax : goal.returns-clause-syntax
returns-clause-syntax c = λ limit live from signs token e. term_means limit live from signs _ e

pub returns-clause-nesting : goal.returns-clause-nesting
returns-clause-nesting c = λ limit live from signs token e. term_means limit live from signs _ e

pub returns-clause-full : goal.returns-clause-full
returns-clause-full c = λ limit live from signs need e. term_means limit live from signs _ e

pub returns-clause-memory : goal.returns-clause-memory
returns-clause-memory c = λ limit live from signs e. term_means limit live from signs _ e
