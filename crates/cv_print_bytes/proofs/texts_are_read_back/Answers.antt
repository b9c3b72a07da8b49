use Rattle.cv_print_bytes.proofs.Read.{term_back, game_back}
use Rattle.cv_print_bytes.proofs.texts_are_read_back.Goals as goal

pub returns-clause-terms : goal.returns-clause-terms
returns-clause-terms c = λ n names t are k w l. term_back n names t are k w l

pub returns-clause-games : goal.returns-clause-games
returns-clause-games c = λ n names t are k w l. game_back n names t are k w l
