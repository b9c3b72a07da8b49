use Rattle.cv_steps_laws.proofs.crypto.Accepted.{accepted, next_drawn}
use Rattle.cv_steps_laws.proofs.crypto.accepted_steps_lead_to_next_games.Goals as goal

pub returns-clause-failure : goal.returns-clause-failure
returns-clause-failure c = λ s e x next h. (accepted s e x next h).failure

pub returns-clause-drawn : goal.returns-clause-drawn
returns-clause-drawn c = next_drawn

pub returns-clause-game : goal.returns-clause-game
returns-clause-game c = λ s e x next h. (accepted s e x next h).game
