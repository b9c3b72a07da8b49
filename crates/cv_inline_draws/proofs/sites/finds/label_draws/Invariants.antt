use Rattle.std.proofs.Common.{◌≡◌, take}
use Rattle.cv_inline.specs.Draws as draws
use Rattle.cv_inline_sites.specs.listing.Callings.{callings_in}
use Rattle.cv_inline_draws.proofs.sites.finds.label_draws.Given as goal

abbrev pub invariant-loop-calling : goal.invariant-loop-calling
invariant-loop-calling l = l.finds.items ≡ draws.label_draws (callings_in l.pool.trees (take l.calling-index l.callings))
