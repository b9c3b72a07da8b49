use Rattle.std.proofs.Common.{◌<◌, ◌∙◌, arith, length}
use Rattle.cv_pool.specs.Nodes.{ChildBelow}
use Rattle.cv_syntax.specs.PoolTrees.{tree_at}
use Rattle.cv_syntax.specs.Walks.{above}
use Rattle.cv_syntax.proofs.Trees.{child_live, empty_at}
use Rattle.cv_syntax.proofs.Walking.{above_child, above_some}
use Rattle.cv_query.proofs.pairs.Ending.{parting_none}
use Rattle.cv_query.proofs.pairs.ends.parting.Goals as goal

pub down-smaller : goal.down-smaller
down-smaller c =
    let node = c.read_node-node.result in
    let next = c.in-Ok.next.at in
    let n = c.in-Some.n.0 in
    let below : ChildBelow n next = c.in-Ok.ensures.child n c.read_node-node.ensures.first c.read_node-node.ensures.second in
    let less : above next < above c.down.here.at = omega (arith, above_some c.down.here.at c.in-Some.n c.in-Some.is, above_child n next below) in
    less

pub down-preserved : goal.down-preserved
down-preserved c =
    let node = c.read_node-node.result in
    let next = c.in-Ok.next.at in
    let n = c.in-Some.n.0 in
    record {
      live = child_live (length c.args.pool.now.trees) c.down.here.at c.in-Some.n next c.in-Some.is c.down.invariant.live (c.in-Ok.ensures.child n c.read_node-node.ensures.first c.read_node-node.ensures.second);
      fits = omega (arith, c.in-Ok.ensures.fits, c.down.invariant.fits);
      same = c.in-Ok.ensures.next ∙ c.down.invariant.same;
    }

pub returns : goal.returns
returns c =
    let here = c.down.here in
    parting_none here.construct here.place (tree_at c.args.pool.now.trees here.at) c.args.p c.args.q (empty_at c.args.pool.now.trees here.at c.in_default.is)
    ∙ c.down.invariant.same
