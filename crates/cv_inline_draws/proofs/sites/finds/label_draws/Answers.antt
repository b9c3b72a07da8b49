use Rattle.std.proofs.Common.{◌++◌, ◌∙◌, Some, ap, arith, map}
use Rattle.cv_syntax_trees.specs.Tree.{size}
use Rattle.cv_syntax.specs.PoolTrees.{tree_at}
use Rattle.cv_inline.specs.Draws.{finds_in}
use Rattle.cv_inline.specs.NextGame.{Calling}
use Rattle.cv_inline_draws.proofs.sites.Gathering.{callings_step, live_item, second_small}
use Rattle.cv_inline_draws.proofs.sites.finds.label_draws.Goals as goal

pub add_finds-requires : goal.add_finds-requires
add_finds-requires c =
    let trees = c.args.pool.now.trees in
    let e = ap size c.second_of.ensures.tree in
    let k = live_item trees c.args.callings.now c.loop-calling.calling-index _ c.calling-item.result c.requires c.loop-calling-test.true c.calling-item.is in
    record {
      live = c.second_of.ensures.live;
      fits = omega (arith, e, second_small (tree_at trees (Some c.calling-item.result.function)), k.nodes);
    }

pub loop-calling-preserved : goal.loop-calling-preserved
loop-calling-preserved c =
    let trees = c.args.pool.now.trees in
    let site = c.calling-item.result.caller.number in
    callings_step (λ (k : Calling). map (λ q. (k.caller.number, q)) (finds_in 0 k.function.body)) trees c.args.callings.now c.loop-calling.calling-index _ c.calling-item.result c.loop-calling.finds.items c.add_finds.new.finds.items c.loop-calling-test.true c.calling-item.is (c.in_ok-add_finds.ensures ∙ ap (λ t. c.loop-calling.finds.items ++ map (λ q. (site, q)) (finds_in 0 t)) c.second_of.ensures.tree) c.loop-calling.invariant
