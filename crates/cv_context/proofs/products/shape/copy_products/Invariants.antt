use Rattle.std.proofs.Common.{◌≡◌, take}
use Rattle.cv_context.specs.products.Products.{products}
use Rattle.cv_context.proofs.products.shape.copy_products.Given as goal

abbrev pub invariant-sites : goal.invariant-sites
invariant-sites l = products l.copy.items ≡ products (take l.k l.sites)
