use Rattle.cv_strategy_moves.proofs.Shorter.{is_shorter}
use Rattle.cv_strategy_moves.proofs.shorter_truths_are_one.Goals as goal

pub returns : goal.returns
returns c = is_shorter
