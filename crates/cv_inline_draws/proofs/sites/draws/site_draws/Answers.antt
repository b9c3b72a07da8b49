use Rattle.std.proofs.Common.{map}
use Rattle.cv_inline.specs.Draws as of_games
use Rattle.cv_inline_sites.specs.listing.Callings.{callers_in}
use Rattle.cv_inline_sites.specs.listing.Listed.{draw_in}
use Rattle.cv_inline_draws.proofs.sites.Gathering.{callings_step}
use Rattle.cv_inline_draws.proofs.sites.draws.site_draws.Goals as goal

pub loop-calling-preserved : goal.loop-calling-preserved
loop-calling-preserved c =
    let trees = c.args.pool.now.trees in
    callings_step (of_games.site_draws (callers_in trees c.args.callings.now)) trees c.args.callings.now c.loop-calling.calling-index _ c.calling-item.result (map draw_in c.loop-calling.draws.items) (map draw_in c.add_site.new.draws.items) c.loop-calling-test.true c.calling-item.is c.in_ok-add_site.ensures c.loop-calling.invariant
