use Rattle.cv_print_bytes.proofs.terminals.Back.{game_back, game_read}
use Rattle.cv_print_bytes.proofs.terminals.games_are_read_back.Goals as goal

pub returns-clause-spelled : goal.returns-clause-spelled
returns-clause-spelled c = λ n finds t rest w l. game_back n finds t rest w l

pub returns-clause-computed : goal.returns-clause-computed
returns-clause-computed c = λ n t w l. game_read n 0 t w l
