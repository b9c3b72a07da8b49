use Rattle.std.proofs.Common.{◌≡◌, map, take}
use Rattle.cv_context.specs.products.ShapesInCode.{calls_in}
use Rattle.cv_context.proofs.products.shape.copy_calls.Given as goal

abbrev pub invariant-calls : goal.invariant-calls
invariant-calls l = map calls_in l.copy.items ≡ map calls_in (take l.k l.calls)
