use Rattle.std.proofs.Common.{arith, refl}
use Rattle.cv_syntax_trees.specs.Tree.{Node}
use Rattle.cv_syntax.specs.PoolTrees.{tree_at}
use Rattle.cv_syntax.proofs.Walking.{size_node}
use Rattle.cv_derive_facts.proofs.processes.process_place.Goals as goal

pub second_place-second-requires-clause-fits : goal.second_place-second-requires-clause-fits
second_place-second-requires-clause-fits c =
    let trees = c.args.pool.now.trees in
    let node = c.args.node in
    omega (arith, size_node (Node node.head (tree_at trees node.first) (tree_at trees node.second)) node.head (tree_at trees node.first) (tree_at trees node.second) refl)

pub body_place-requires-clause-fits : goal.body_place-requires-clause-fits
body_place-requires-clause-fits c =
    let trees = c.args.pool.now.trees in
    let node = c.args.node in
    omega (arith, c.second_place-second.ensures, size_node (Node node.head (tree_at trees node.first) (tree_at trees node.second)) node.head (tree_at trees node.first) (tree_at trees node.second) refl)
