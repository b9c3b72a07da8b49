use Rattle.std.proofs.Common.{◌≡◌, ◌++◌, take, flat_map, codes}
use Rattle.cv_context.specs.products.ShapesInCode.{calls_in}
use Rattle.cv_report.specs.contexts.Contexts.{calls_text}
use Rattle.cv_report.proofs.contexts.contexts.push_more_functions.Given as goal

abbrev pub invariant-calls : goal.invariant-calls
invariant-calls l = l.out.items ≡ l.fn.out.items ++ flat_map (λ c. codes ", " ++ calls_text l.names l.order (calls_in c)) (take l.k l.calls)
