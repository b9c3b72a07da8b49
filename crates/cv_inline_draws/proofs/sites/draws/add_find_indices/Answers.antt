use Rattle.std.proofs.Common.{map}
use Rattle.cv_syntax.specs.PoolTrees.{tree_at}
use Rattle.cv_meaning.specs.contexts.Inlined.{Caller}
use Rattle.cv_inline.specs.Draws.{index_draws}
use Rattle.cv_inline_sites.specs.listing.Listed.{draw_in}
use Rattle.cv_inline_draws.proofs.sites.Gathering.{callers_step}
use Rattle.cv_inline_draws.proofs.sites.draws.add_find_indices.Goals as goal

pub loop-calling-preserved : goal.loop-calling-preserved
loop-calling-preserved c =
    let trees = c.args.pool.now.trees in
    callers_step (λ (s : Caller). index_draws c.args.site c.args.place s 0 (tree_at trees c.args.branches)) trees c.args.callings.now c.loop-calling.calling-index _ c.calling-item.result (map draw_in c.args.draws.now.items) (map draw_in c.loop-calling.draws.items) (map draw_in c.add_branch_indices.new.draws.items) c.loop-calling-test.true c.calling-item.is c.in_ok-add_branch_indices.ensures c.loop-calling.invariant
