use Rattle.std.proofs.Common.{length, ◌∙◌}
use Rattle.cv_syntax.specs.PoolTrees.{tree_at}
use Rattle.cv_syntax.proofs.Trees.{child_live, empty_at, node_at}
use Rattle.cv_match.proofs.reads.Rows.{rows_done, rows_missing, rows_right, rows_wrong}
use Rattle.cv_match.proofs.reads.cells.are_indices.Goals as goal

pub returns-in_default : goal.returns-in_default
returns-in_default c =
    let trees = c.args.pool.now.trees in
    rows_missing c.args.replications.now c.loop-replication.replication-index (tree_at trees c.loop-replication.at) c.loop-replication-test.true (empty_at trees c.loop-replication.at c.in_default.is) ∙ c.loop-replication.invariant.same

pub returns-then-not-is_index : goal.returns-then-not-is_index
returns-then-not-is_index c =
    let trees = c.args.pool.now.trees in
    let node = c.read_node-node.result in
    rows_wrong c.args.replications.now c.loop-replication.replication-index (tree_at trees c.loop-replication.at) _ c.loop-replication-test.true node.head (tree_at trees node.first) (tree_at trees node.second) (node_at trees c.loop-replication.at c.in-Some.n node c.in-Some.is c.read_node-node.ensures.tree) c.is_index.result c.is_index.ensures c.if-not-is_index.true ∙ c.loop-replication.invariant.same

pub loop-replication-preserved : goal.loop-replication-preserved
loop-replication-preserved c =
    let trees = c.args.pool.now.trees in
    let node = c.read_node-node.result in
    record {
      live = child_live (length trees) c.loop-replication.at c.in-Some.n node.second c.in-Some.is c.loop-replication.invariant.live c.read_node-node.ensures.second;
      same = rows_right c.args.replications.now c.loop-replication.replication-index (tree_at trees c.loop-replication.at) _ c.loop-replication-test.true node.head (tree_at trees node.first) (tree_at trees node.second) (node_at trees c.loop-replication.at c.in-Some.n node c.in-Some.is c.read_node-node.ensures.tree) c.is_index.result c.is_index.ensures c.if-not-is_index.false ∙ c.loop-replication.invariant.same;
    }

pub returns : goal.returns
returns c =
    c.is_empty.ensures.test ∙ (rows_done c.args.replications.now c.loop-replication.replication-index (tree_at c.args.pool.now.trees c.loop-replication.at) c.loop-replication-test.false ∙ c.loop-replication.invariant.same)
