use Rattle.cv_strategy_moves.proofs.Given.{other_names}
use Rattle.cv_strategy_moves.proofs.other_names_meet_the_conditions.Goals as goal

pub returns : goal.returns
returns c = other_names
