use Rattle.cv_costs.proofs.Costs.{same_cost}
use Rattle.cv_costs.proofs.products.cost_of_pairs.Goals as goal

pub returns : goal.returns
returns c = λ trees. same_cost c.cost_of_one.result _ _ c.cost_of_one.ensures (c.in_ok-collision.ensures trees)
