use Rattle.std.proofs.Common.{arith}
use Rattle.cv_syntax.specs.PoolTrees.{tree_at}
use Rattle.cv_syntax.proofs.Walking.{size_node}
use Rattle.cv_inline_draws.proofs.sites.draws.add_own.Goals as goal

pub add_find_indices-requires-clause-fits : goal.add_find_indices-requires-clause-fits
add_find_indices-requires-clause-fits c =
    let trees = c.args.pool.now.trees in
    let node = c.in-Some.node in
    let s = size_node (tree_at trees c.args.body.root) node.head (tree_at trees node.first) (tree_at trees node.second) c.in-Some.ensures.node in
    omega (arith, c.requires.body.fits, s)
