use Rattle.std.proofs.Common.{length}
use Rattle.cv_syntax.specs.PoolTrees.{tree_at}
use Rattle.cv_syntax.proofs.Trees.{child_live, empty_at, node_at}
use Rattle.cv_inline_draws.proofs.callings.Lists.{more, none_left, variables_end, variables_more, variables_other}
use Rattle.cv_inline_draws.proofs.callings.names.add_binders.Goals as goal

pub returns-in_default-head : goal.returns-in_default-head
returns-in_default-head c =
    let trees = c.args.pool.now.trees in
    let node = c.read_node-node.result in
    let e = node_at trees c.binders.at c.in-Some.n node c.in-Some.is c.read_node-node.ensures.tree in
    none_left c.binders.names.items _ _ (variables_other (tree_at trees c.binders.at) node.head (tree_at trees node.first) (tree_at trees node.second) e c.in_default-head.not-Binder) c.binders.invariant.names

pub binders-preserved : goal.binders-preserved
binders-preserved c =
    let trees = c.args.pool.now.trees in
    let node = c.read_node-node.result in
    let e = node_at trees c.binders.at c.in-Some.n node c.in-Some.is c.read_node-node.ensures.tree in
    record {
      live = child_live (length trees) c.binders.at c.in-Some.n node.second c.in-Some.is c.binders.invariant.live c.read_node-node.ensures.second;
      names = more c.binders.names.items _ _ _ _ _ c.in_ok-push.ensures.items (variables_more (tree_at trees c.binders.at) node.head (tree_at trees node.first) (tree_at trees node.second) c.in-Binder.x c.in-Binder.field-1 e c.in-Binder.is) c.binders.invariant.names;
    }

pub returns : goal.returns
returns c =
    let trees = c.args.pool.now.trees in
    none_left c.binders.names.items _ _ (variables_end (tree_at trees c.binders.at) (empty_at trees c.binders.at c.in_default.is)) c.binders.invariant.names
