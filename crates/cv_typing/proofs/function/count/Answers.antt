use Rattle.std.proofs.Common.{length, arith}
use Rattle.cv_syntax.specs.PoolTrees.{tree_at}
use Rattle.cv_syntax.proofs.Walking.{above_child, above_some}
use Rattle.cv_syntax_trees.proofs.sites.Counting.{count_end, count_step}
use Rattle.cv_syntax.proofs.Trees.{child_live, empty_at, node_at}
use Rattle.cv_typing.proofs.function.count.Goals as goal

pub list-preserved : goal.list-preserved
list-preserved c =
    let trees = c.args.pool.now.trees in
    let node = c.read_node-at.result in
    let step = count_step (tree_at trees c.list.at) node.head (tree_at trees node.first) (tree_at trees node.second) (node_at trees c.list.at c.in-Some.k node c.in-Some.is c.read_node-at.ensures.tree) in
    let less = above_child c.in-Some.k.0 node.second c.read_node-at.ensures.second in
    let here = above_some c.list.at c.in-Some.k c.in-Some.is in
    record {
      live = child_live (length trees) c.list.at c.in-Some.k node.second c.in-Some.is c.list.invariant.live c.read_node-at.ensures.second;
      sum = omega (arith, step, c.list.invariant.sum);
      bound = omega (arith, less, here, c.list.invariant.bound);
    }

pub returns : goal.returns
returns c =
    let end = count_end (tree_at c.args.pool.now.trees c.list.at) (empty_at c.args.pool.now.trees c.list.at c.in_default.is) in
    omega (arith, end, c.list.invariant.sum)
