use Rattle.std.proofs.Common.{◌≡◌, List, drop}
use Rattle.cv_pool.specs.KindTree.{KindTree}
use Rattle.cv_inline.specs.NextGame.{numbered}
use Rattle.cv_inline_sites.specs.listing.Callings.{callings_in}
use Rattle.cv_inline_measure.proofs.calls.place_of_site.Given as goal

abbrev pub invariant-sites : goal.invariant-sites
invariant-sites l = (trees : List KindTree) → numbered l.number (callings_in trees (drop l.place l.callings)) ≡ numbered l.number (callings_in trees l.callings)
