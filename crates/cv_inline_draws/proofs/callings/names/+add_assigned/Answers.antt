use Rattle.std.proofs.Common.{length}
use Rattle.cv_syntax.specs.PoolTrees.{tree_at}
use Rattle.cv_syntax.proofs.Trees.{child_above, child_live, empty_at, node_at}
use Rattle.cv_inline_draws.proofs.callings.Lists.{assigned_end, assigned_Let, assigned_New, assigned_other, more, none_left}
use Rattle.cv_inline_draws.proofs.callings.names.+add_assigned.Goals as goal

pub body-preserved-in_ok-push-in-New : goal.body-preserved-in_ok-push-in-New
body-preserved-in_ok-push-in-New t c =
    let trees = c.args.pool.now.trees in
    let node = c.read_node-node.result in
    let e = node_at trees c.body.at c.in-Some.n node c.in-Some.is c.read_node-node.ensures.tree in
    record {
      live = child_live (length trees) c.body.at c.in-Some.n node.second c.in-Some.is c.body.invariant.live c.read_node-node.ensures.second;
      less = child_above _ c.body.at c.in-Some.n node.second c.in-Some.is c.body.invariant.less c.read_node-node.ensures.second;
      names = more c.body.names.items _ _ _ _ _ c.in_ok-push-in-New.ensures.items (assigned_New (tree_at trees c.body.at) node.head (tree_at trees node.first) (tree_at trees node.second) c.in-New.z c.in-New.field-1 e c.in-New.is) c.body.invariant.names;
    }

pub body-preserved-in_ok-push-in-Let : goal.body-preserved-in_ok-push-in-Let
body-preserved-in_ok-push-in-Let t c =
    let trees = c.args.pool.now.trees in
    let node = c.read_node-node.result in
    let e = node_at trees c.body.at c.in-Some.n node c.in-Some.is c.read_node-node.ensures.tree in
    record {
      live = child_live (length trees) c.body.at c.in-Some.n node.second c.in-Some.is c.body.invariant.live c.read_node-node.ensures.second;
      less = child_above _ c.body.at c.in-Some.n node.second c.in-Some.is c.body.invariant.less c.read_node-node.ensures.second;
      names = more c.body.names.items _ _ _ _ _ c.in_ok-push-in-Let.ensures.items (assigned_Let (tree_at trees c.body.at) node.head (tree_at trees node.first) (tree_at trees node.second) c.in-Let.z c.in-Let.field-1 e c.in-Let.is) c.body.invariant.names;
    }

pub body-preserved : goal.body-preserved
body-preserved t c =
    let trees = c.args.pool.now.trees in
    let node = c.read_node-node.result in
    let e = node_at trees c.body.at c.in-Some.n node c.in-Some.is c.read_node-node.ensures.tree in
    record {
      live = child_live (length trees) c.body.at c.in-Some.n node.second c.in-Some.is c.body.invariant.live c.read_node-node.ensures.second;
      less = child_above _ c.body.at c.in-Some.n node.second c.in-Some.is c.body.invariant.less c.read_node-node.ensures.second;
      names = more c.body.names.items _ _ _ _ _ c.in_ok-add_assigned-in_default-head.ensures (assigned_other (tree_at trees c.body.at) node.head (tree_at trees node.first) (tree_at trees node.second) e c.in_default-head.not-New c.in_default-head.not-Let) c.body.invariant.names;
    }

pub returns : goal.returns
returns t c =
    let trees = c.args.pool.now.trees in
    none_left c.body.names.items _ _ (assigned_end (tree_at trees c.body.at) (empty_at trees c.body.at c.in_default.is)) c.body.invariant.names
