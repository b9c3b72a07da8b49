use Rattle.cv_print_bytes.proofs.Read.{one_term, one_game}
use Rattle.cv_print_bytes.proofs.printing_is_injective.Goals as goal

pub returns-clause-terms : goal.returns-clause-terms
returns-clause-terms c = λ names s t are j k v w e. one_term names s t are j k v w e

pub returns-clause-games : goal.returns-clause-games
returns-clause-games c = λ names s t are j k v w e. one_game names s t are j k v w e
