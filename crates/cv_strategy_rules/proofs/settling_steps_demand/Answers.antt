use Rattle.cv_strategy_rules.proofs.Demanding.{demanded}
use Rattle.cv_strategy_rules.proofs.settling_steps_demand.Goals as goal

pub returns : goal.returns
returns c = demanded
