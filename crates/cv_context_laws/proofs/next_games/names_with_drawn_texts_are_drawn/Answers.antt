use Rattle.cv_context_laws.proofs.next_games.Texts.{names_drawn}
use Rattle.cv_context_laws.proofs.next_games.names_with_drawn_texts_are_drawn.Goals as goal

pub returns : goal.returns
returns c r table taken drawn labels texts few known named answers least = names_drawn table r taken drawn labels texts few known named answers least
