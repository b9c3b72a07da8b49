use Rattle.cv_strategy_moves.proofs.Advising.{advised}
use Rattle.cv_strategy_moves.proofs.advice_is_by_definitions_and_uses.Goals as goal

pub returns : goal.returns
returns c = advised
