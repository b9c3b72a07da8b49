use Rattle.std.proofs.Common.{◌≡◌, ◌+◌, arith, ap, ◌∙◌}
use Rattle.cv_syntax.specs.PoolTrees.{tree_at}
use Rattle.cv_syntax.proofs.ChildReads.{left_over}
use Rattle.cv_syntax.proofs.Trees.{empty_at}
use Rattle.cv_syntax.specs.limits.Limits.{nodes_of}
use Rattle.cv_kernel_crypto.proofs.Rooms.{nodes_empty, nodes_node}
use Rattle.cv_kernel_crypto.proofs.room.+nodes_left.Goals as goal

pub returns-in_default : goal.returns-in_default
returns-in_default t c = omega (arith, nodes_empty (tree_at c.args.pool.now.trees c.args.tree) (empty_at c.args.pool.now.trees c.args.tree c.in_default.is))

pub returns : goal.returns
returns t c =
    let trees = c.args.pool.now.trees in
    let node = c.read_node-node.result in
    let e = nodes_node (tree_at trees c.args.tree) node.head (tree_at trees node.first) (tree_at trees node.second) (ap (tree_at trees) c.in-Some.is ∙ c.read_node-node.ensures.tree) in
    let r : nodes_of (tree_at trees c.args.tree) ≡ nodes_of (tree_at trees node.second) + (1 + nodes_of (tree_at trees node.first)) = omega (arith, e) in
    let s : c.in-Some-nodes_left.rest + (1 + nodes_of (tree_at trees node.first)) ≡ c.args.room = omega (arith, c.in-Some-nodes_left.ensures) in
    left_over c.nodes_left-2.result _ _ _ _ _ r s c.nodes_left-2.ensures
