use Rattle.std.proofs.Common.{◌≡◌, ◌≤◌, drop, length}
use Rattle.cv_costs.specs.Factors.{factors_of}
use Rattle.cv_costs.proofs.products.factors_of.Given as goal

abbrev pub invariant-parameters : goal.invariant-parameters
invariant-parameters l = record {
  within : l.left ≤ length l.parameters;
  same : l.factors.items ≡ factors_of l.order (drop l.left l.parameters);
}

abbrev pub decreases-parameters : goal.decreases-parameters
decreases-parameters l = l.left
