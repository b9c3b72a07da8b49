use Rattle.std.proofs.Common.{◌≡◌, take}
use Rattle.cv_costs.proofs.products.shortened.Given as goal

abbrev pub invariant-factors : goal.invariant-factors
invariant-factors l = l.made.items ≡ take l.k l.factors
