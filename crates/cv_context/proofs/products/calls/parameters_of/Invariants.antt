use Rattle.std.proofs.Common.{◌≡◌, ◌++◌, drop}
use Rattle.cv_scene.specs.Contexts.{parameters_of}
use Rattle.cv_context.proofs.products.calls.parameters_of.Given as goal

abbrev pub invariant-replications : goal.invariant-replications
invariant-replications l = l.parameters.items ++ parameters_of (drop l.k l.replications) ≡ parameters_of l.replications
