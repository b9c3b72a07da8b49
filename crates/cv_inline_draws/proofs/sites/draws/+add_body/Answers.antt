use Rattle.std.proofs.Common.{map}
use Rattle.cv_syntax.specs.PoolTrees.{tree_at}
use Rattle.cv_inline_sites.specs.listing.Callings.{callers_in}
use Rattle.cv_inline_sites.specs.listing.Listed.{draw_in}
use Rattle.cv_inline_draws.specs.sites.Parts.{draws_at}
use Rattle.cv_inline_draws.proofs.sites.Gathering.{whole_body}
use Rattle.cv_inline_draws.proofs.sites.draws.+add_body.Goals as goal

pub returns : goal.returns
returns t c =
    let trees = c.args.pool.now.trees in
    let ss = callers_in trees c.args.callings.now in
    whole_body ss c.args.site c.args.body.place (tree_at trees c.args.body.root) (draws_at trees ss c.args.site) (map draw_in c.args.draws.now.items) (map draw_in c.add_own.new.draws.items) (map draw_in c.loop-inner.draws.items) c.as_slice-inner-items.result.now c.in_ok-below.below.items c.loop-inner.inner-index c.in_ok-add_own.ensures c.loop-inner.invariant c.loop-inner-test.false c.as_slice-inner-items.ensures.value (c.in_ok-below.ensures.draws ss c.args.site)
