use Rattle.cv_steps_laws.proofs.crypto.reductions.Drawn.{gives}
use Rattle.cv_steps_laws.proofs.crypto.reductions.drawn_tables_give_next_games.Goals as goal

pub returns : goal.returns
returns c r before after taken d t few room above i = gives r before after taken d t few room above i
