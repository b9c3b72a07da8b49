use Rattle.std.proofs.Common.{◌≡◌, ◌++◌, drop, take}
use Rattle.cv_costs.specs.Factors.{with_parameter}
use Rattle.cv_costs.proofs.products.add_parameter.Given as goal

abbrev pub invariant-factors : goal.invariant-factors
invariant-factors l = record {
  same : l.factors.items ≡ l.fn.factors.items;
  goes : take l.k l.factors.items ++ with_parameter l.order l.n (drop l.k l.factors.items) ≡ with_parameter l.order l.n l.fn.factors.items;
}
