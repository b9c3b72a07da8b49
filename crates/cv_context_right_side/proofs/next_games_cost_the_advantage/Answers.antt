use Rattle.cv_context_right_side.proofs.Steps.{step_costs}
use Rattle.cv_context_right_side.proofs.next_games_cost_the_advantage.Goals as goal

pub returns : goal.returns
returns c r names labels i x a h d = step_costs r h i names labels d x a
