use Rattle.cv_sequences.proofs.costs.Costs.{cost_worth}
use Rattle.cv_sequences.proofs.costs.costs_have_their_value.Goals as goal

pub returns : goal.returns
returns c = cost_worth
