use Rattle.cv_strategy_moves.proofs.Demanding.{demanded}
use Rattle.cv_strategy_moves.proofs.moves_demand.Goals as goal

pub returns : goal.returns
returns c = demanded
