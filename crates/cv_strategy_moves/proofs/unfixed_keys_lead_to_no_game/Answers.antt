use Rattle.cv_strategy_moves.proofs.Choosing.{unfixed}
use Rattle.cv_strategy_moves.proofs.unfixed_keys_lead_to_no_game.Goals as goal

pub returns : goal.returns
returns c = unfixed
