use Rattle.std.proofs.Common.{◌≡◌, take}
use Rattle.cv_costs.specs.Factors.{parameters_in}
use Rattle.cv_costs.proofs.products.order_of.Given as goal

abbrev pub invariant-decls : goal.invariant-decls
invariant-decls l = l.order.items ≡ parameters_in (take l.k l.decls.list)
