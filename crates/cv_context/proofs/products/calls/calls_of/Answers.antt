use Rattle.std.proofs.Common.{refl, arith, ◌∙◌}
use Rattle.cv_context.specs.products.Products.{products, products_at}
use Rattle.cv_context.proofs.products.Products.{at_end, of_sites}
use Rattle.cv_context.proofs.products.calls.calls_of.Goals as goal

pub returns : goal.returns
returns c = λ trees M. at_end (λ ss. products_at ss c.args.position) refl c.args.sites.now c.sites.k (products c.sites.calls.items) _ (omega arith) c.sites.invariant ∙ of_sites trees M c.args.position c.args.sites.now
