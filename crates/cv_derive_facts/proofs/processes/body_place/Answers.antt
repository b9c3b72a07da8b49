use Rattle.std.proofs.Common.{arith}
use Rattle.cv_syntax.specs.PoolTrees.{tree_at}
use Rattle.cv_syntax.proofs.Walking.{size_node}
use Rattle.cv_derive_facts.proofs.processes.body_place.Goals as goal

pub second_place-behind-requires-clause-fits : goal.second_place-behind-requires-clause-fits
second_place-behind-requires-clause-fits c =
    let trees = c.args.pool.now.trees in
    let list = c.in-Some.list in
    omega (arith, size_node (tree_at trees c.args.rest) list.head (tree_at trees list.first) (tree_at trees list.second) c.in-Some.ensures.node)

pub second_place-requires-clause-fits : goal.second_place-requires-clause-fits
second_place-requires-clause-fits c =
    let trees = c.args.pool.now.trees in
    let list = c.in-Some.list in
    let condition = c.in-Some-read_child.condition in
    omega (arith, size_node (tree_at trees c.args.rest) list.head (tree_at trees list.first) (tree_at trees list.second) c.in-Some.ensures.node, size_node (tree_at trees list.second) condition.head (tree_at trees condition.first) (tree_at trees condition.second) c.in-Some-read_child.ensures.node, c.second_place-behind.ensures)
