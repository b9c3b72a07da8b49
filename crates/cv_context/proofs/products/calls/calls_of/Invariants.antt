use Rattle.std.proofs.Common.{◌≡◌, ◌++◌, drop}
use Rattle.cv_context.specs.products.Products.{products, products_at}
use Rattle.cv_context.proofs.products.calls.calls_of.Given as goal

abbrev pub invariant-sites : goal.invariant-sites
invariant-sites l = products l.calls.items ++ products_at (drop l.k l.sites) l.position ≡ products_at l.sites l.position
