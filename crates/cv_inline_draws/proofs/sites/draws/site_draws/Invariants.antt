use Rattle.std.proofs.Common.{◌≡◌, map, take}
use Rattle.std.specs.Prelude.{flat_map}
use Rattle.cv_inline.specs.Draws as of_games
use Rattle.cv_inline_sites.specs.listing.Callings.{callers_in, callings_in}
use Rattle.cv_inline_sites.specs.listing.Listed.{draw_in}
use Rattle.cv_inline_draws.proofs.sites.draws.site_draws.Given as goal

abbrev pub invariant-loop-calling : goal.invariant-loop-calling
invariant-loop-calling l = map draw_in l.draws.items ≡ flat_map (of_games.site_draws (callers_in l.pool.trees l.callings)) (callings_in l.pool.trees (take l.calling-index l.callings))
