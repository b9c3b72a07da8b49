use Rattle.cv_print_back.proofs.Back.{game_comes_back}
use Rattle.cv_print_back.proofs.laws.games_come_back.Goals as goal

pub returns : goal.returns
returns c = λ limit live names ds t p. game_comes_back limit live names ds t p
