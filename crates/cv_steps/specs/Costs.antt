-- The cost of a step, as sums take it.
use Rattle.cv_bound.specs.declared.cost.Cost.{Cost as SumCost}
use Rattle.cv_bound.specs.declared.cost.Cost.TheVariants as bound
use Rattle.cv_steps.specs.Steps.{Collisions, Cost, Zero}

abbrev pub cost_of : Cost → SumCost
cost_of Zero = bound.Zero
cost_of (Collisions cs) = bound.Collisions cs
