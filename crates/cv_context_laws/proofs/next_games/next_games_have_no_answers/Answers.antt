use Rattle.cv_context_laws.proofs.next_games.Games.{next_same}
use Rattle.cv_context_laws.proofs.next_games.next_games_have_no_answers.Goals as goal

pub returns : goal.returns
returns c = next_same
