use Rattle.std.proofs.Common.{sym}
use Rattle.cv_syntax.specs.PoolTrees.{tree_at}
use Rattle.cv_syntax.proofs.Trees.{empty_at, node_at}
use Rattle.cv_match_terms.proofs.patterns.Parts.{test_first, test_last, test_second}
use Rattle.cv_match.proofs.reads.Rows.{array_empty, array_node}
use Rattle.cv_match.proofs.reads.cells.is_array.Goals as goal

pub returns-in_default : goal.returns-in_default
returns-in_default c = array_empty c.args.x c.args.replications.now (tree_at c.args.pool.now.trees c.args.term) (empty_at c.args.pool.now.trees c.args.term c.in_default.is)

pub returns-then-are_indices : goal.returns-then-are_indices
returns-then-are_indices c =
    let trees = c.args.pool.now.trees in
    let node = c.read_node-node.result in
    test_last _ _ _ _ _ _ _ c.is_head.ensures c.if-is_head.true c.are_indices.ensures c.if-are_indices.true c.is_empty.ensures.test (sym (array_node c.args.x c.args.replications.now (tree_at trees c.args.term) node.head (tree_at trees node.first) (tree_at trees node.second) (node_at trees c.args.term c.in-Some.n node c.in-Some.is c.read_node-node.ensures.tree)))

pub returns-else-are_indices : goal.returns-else-are_indices
returns-else-are_indices c =
    let trees = c.args.pool.now.trees in
    let node = c.read_node-node.result in
    test_second _ _ _ _ _ _ c.is_head.ensures c.if-is_head.true c.are_indices.ensures c.if-are_indices.false (sym (array_node c.args.x c.args.replications.now (tree_at trees c.args.term) node.head (tree_at trees node.first) (tree_at trees node.second) (node_at trees c.args.term c.in-Some.n node c.in-Some.is c.read_node-node.ensures.tree)))

pub returns-else-is_head : goal.returns-else-is_head
returns-else-is_head c =
    let trees = c.args.pool.now.trees in
    let node = c.read_node-node.result in
    test_first _ _ _ _ c.is_head.ensures c.if-is_head.false (sym (array_node c.args.x c.args.replications.now (tree_at trees c.args.term) node.head (tree_at trees node.first) (tree_at trees node.second) (node_at trees c.args.term c.in-Some.n node c.in-Some.is c.read_node-node.ensures.tree)))
