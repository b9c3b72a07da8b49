use Rattle.cv_strategy_moves.proofs.Matched.{fixed, read}
use Rattle.cv_strategy_moves.proofs.keys_are_read_and_chosen.Goals as goal

pub returns-clause-read : goal.returns-clause-read
returns-clause-read c = read

pub returns-clause-fixed : goal.returns-clause-fixed
returns-clause-fixed c = fixed
