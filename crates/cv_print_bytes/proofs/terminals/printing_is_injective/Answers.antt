use Rattle.cv_print_bytes.proofs.terminals.Back.{same_game, same_term}
use Rattle.cv_print_bytes.proofs.terminals.printing_is_injective.Goals as goal

pub returns-clause-terms : goal.returns-clause-terms
returns-clause-terms c = λ s t v w e. same_term s t v w e

pub returns-clause-games : goal.returns-clause-games
returns-clause-games c = λ s t v w e. same_game s t v w e
