use Rattle.cv_syntax.specs.PoolTrees.{tree_at}
use Rattle.cv_syntax.proofs.Trees.{node_at}
use Rattle.cv_group.proofs.bodies.Steps as step
use Rattle.cv_group.proofs.bodies.Sets as set
use Rattle.cv_group.proofs.bodies.cells.note_cell.Goals as goal

pub returns-in_default-head : goal.returns-in_default-head
returns-in_default-head c =
    let trees = c.args.pool.now.trees in
    let node = c.read_node-node.result in
    record { reads = λ v u. set.or_nothing _ _ (step.no_read (tree_at trees c.args.cell) node.head (tree_at trees node.first) (tree_at trees node.second) (node_at trees c.args.cell c.in-Some.k node c.in-Some.is c.read_node-node.ensures.tree) c.in_default-head.not-Read v u); names = λ x. set.or_nothing _ _ (step.no_name (tree_at trees c.args.cell) node.head (tree_at trees node.first) (tree_at trees node.second) (node_at trees c.args.cell c.in-Some.k node c.in-Some.is c.read_node-node.ensures.tree) c.in_default-head.not-Leaf x) }
