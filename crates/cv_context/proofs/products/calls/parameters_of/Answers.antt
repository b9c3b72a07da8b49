use Rattle.std.proofs.Common.{refl, arith}
use Rattle.cv_scene.specs.Contexts.{parameters_of}
use Rattle.cv_context.proofs.products.Products.{at_end}
use Rattle.cv_context.proofs.products.calls.parameters_of.Goals as goal

pub returns : goal.returns
returns c = at_end parameters_of refl c.args.replications.now c.replications.k c.replications.parameters.items _ (omega arith) c.replications.invariant
