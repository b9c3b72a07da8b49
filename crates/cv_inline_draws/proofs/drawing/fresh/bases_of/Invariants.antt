use Rattle.std.proofs.Common.{◌≡◌, map, take}
use Rattle.cv_inline_sites.specs.listing.Listed.{draw_in}
use Rattle.cv_inline_draws.specs.names.Fresh as fresh
use Rattle.cv_inline_draws.proofs.drawing.fresh.bases_of.Given as goal

abbrev pub invariant-loop-draw : goal.invariant-loop-draw
invariant-loop-draw l = l.bases.items ≡ fresh.bases_of (map draw_in (take l.draw-index l.draws))
