use Rattle.std.proofs.Common.{drop, arith, length-drop}
use Rattle.cv_costs.proofs.Factors.{few}
use Rattle.cv_costs.proofs.products.factors_of.Goals as goal

pub add_parameter-requires : goal.add_parameter-requires
add_parameter-requires c = few c.args.order.now (drop c.parameters.left c.args.parameters.now) c.parameters.factors.items _ c.parameters.invariant.same (omega (arith, length-drop c.parameters.left c.args.parameters.now))
