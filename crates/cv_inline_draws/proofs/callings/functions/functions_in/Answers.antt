use Rattle.std.proofs.Common.{ap, arith, length, map}
use Rattle.cv_syntax.specs.PoolTrees.{tree_at}
use Rattle.cv_syntax.proofs.Trees.{child_live, empty_at, node_at}
use Rattle.cv_syntax.proofs.Walking.{size_at}
use Rattle.cv_meaning.specs.contexts.Groups.{functions_of}
use Rattle.cv_inline_draws.specs.callings.RightFunctions.{function_in}
use Rattle.cv_inline_draws.proofs.callings.Lists.{none_left}
use Rattle.cv_inline_draws.proofs.callings.RightSides.{function_more, live_function, live_push, nodes_behind}
use Rattle.cv_inline_draws.proofs.callings.functions.functions_in.Goals as goal

pub list-preserved : goal.list-preserved
list-preserved c =
    let trees = c.args.pool.now.trees in
    let node = c.read_node-node.result in
    let t = tree_at trees c.list.at in
    let b = tree_at trees node.second in
    let f = c.in-Some-first.function in
    let e = node_at trees c.list.at c.in-Some.n node c.in-Some.is c.read_node-node.ensures.tree in
    let s = size_at trees c.list.at c.in-Some.n node c.in-Some.is c.read_node-node.ensures.tree in
    let l = child_live (length trees) c.list.at c.in-Some.n node.first c.in-Some.is c.list.invariant.live c.read_node-node.ensures.first in
    record {
      live = child_live (length trees) c.list.at c.in-Some.n node.second c.in-Some.is c.list.invariant.live c.read_node-node.ensures.second;
      fits = omega (arith, s, c.list.invariant.fits);
      nodes = nodes_behind t node.head (tree_at trees node.first) b e c.list.invariant.nodes;
      functions = function_more trees c.list.functions.items c.push.new.self.items t node.head b node.first f _ e c.in-Some-first.is c.in_ok-push.ensures.items c.list.invariant.functions;
      alive = live_push trees c.list.functions.items c.push.new.self.items f c.in_ok-push.ensures.items c.list.invariant.alive (live_function trees t node.head b node.first f e c.in-Some-first.is l c.list.invariant.fits);
    }

pub returns-clause-functions : goal.returns-clause-functions
returns-clause-functions c =
    let trees = c.args.pool.now.trees in
    none_left (map (function_in trees) c.list.functions.items) _ _ (ap functions_of (empty_at trees c.list.at c.in_default.is)) c.list.invariant.functions
