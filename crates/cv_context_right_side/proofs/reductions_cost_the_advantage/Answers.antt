use Rattle.cv_context_right_side.proofs.Costs.{costs}
use Rattle.cv_context_right_side.proofs.reductions_cost_the_advantage.Goals as goal

pub returns : goal.returns
returns c = costs
