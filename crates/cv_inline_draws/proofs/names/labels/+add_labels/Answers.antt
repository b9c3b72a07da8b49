use Rattle.std.proofs.Common.{arith, length}
use Rattle.cv_syntax.specs.PoolTrees.{tree_at}
use Rattle.cv_syntax.proofs.Trees.{child_live, empty_at, node_at}
use Rattle.cv_syntax.proofs.Walking.{above_child, above_some}
use Rattle.cv_inline_draws.proofs.names.LabelLists.{nodes_end, nodes_more}
use Rattle.cv_inline_draws.proofs.names.labels.+add_labels.Goals as goal

pub nodes-preserved : goal.nodes-preserved
nodes-preserved t c =
    let trees = c.args.pool.now.trees in
    let at = c.nodes.at in
    let n = c.in-Some.n in
    let node = c.read_node-node.result in
    record {
      live = child_live (length trees) at n node.second c.in-Some.is c.nodes.invariant.live c.read_node-node.ensures.second;
      less = let l = c.nodes.invariant.less in let up = above_some at n c.in-Some.is in let below = above_child n.0 node.second c.read_node-node.ensures.second in omega arith;
      labels = nodes_more c.nodes.labels.items c.add_label.new.labels.items c.add_labels.new.labels.items _ node.head (tree_at trees at) (tree_at trees node.first) (tree_at trees node.second) (node_at trees at n node c.in-Some.is c.read_node-node.ensures.tree) c.in_ok-add_label.ensures c.in_ok-add_labels.ensures c.nodes.invariant.labels;
    }

pub returns : goal.returns
returns t c = nodes_end c.nodes.labels.items _ (tree_at c.args.pool.now.trees c.nodes.at) (empty_at c.args.pool.now.trees c.nodes.at c.in_default.is) c.nodes.invariant.labels
