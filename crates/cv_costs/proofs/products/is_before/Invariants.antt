use Rattle.std.proofs.Common.{◌≡◌, drop}
use Rattle.cv_costs.specs.Factors.{is_before}
use Rattle.cv_costs.proofs.products.is_before.Given as goal

abbrev pub invariant-order : goal.invariant-order
invariant-order l = is_before (drop l.k l.order) l.n l.m ≡ is_before l.order l.n l.m
