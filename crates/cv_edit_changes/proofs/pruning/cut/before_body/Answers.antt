use Rattle.std.proofs.Common.{ap, arith}
use Rattle.cv_syntax_trees.specs.Head.{weight}
use Rattle.cv_syntax.specs.PoolTrees.{tree_at}
use Rattle.cv_syntax.proofs.Walking.{size_node}
use Rattle.cv_edit_changes.proofs.pruning.Branches.{guards_few}
use Rattle.cv_edit_changes.proofs.pruning.cut.before_body.Goals as goal

pub size_below-indices-requires-clause-fits : goal.size_below-indices-requires-clause-fits
size_below-indices-requires-clause-fits c =
    let trees = c.args.pool.now.trees in
    let node = c.in_ok-node.node in
    omega (arith, c.requires.fits, size_node (tree_at trees c.args.branch) node.head (tree_at trees node.first) (tree_at trees node.second) c.in_ok-node.ensures.node)

pub overflow_add-result : goal.overflow_add-result
overflow_add-result c =
    let trees = c.args.pool.now.trees in
    let node = c.in_ok-node.node in
    omega (arith, c.requires.fits, c.size_below-indices.ensures, ap weight c.in-Branch.is, size_node (tree_at trees c.args.branch) node.head (tree_at trees node.first) (tree_at trees node.second) c.in_ok-node.ensures.node)

pub guards-requires-clause-fits : goal.guards-requires-clause-fits
guards-requires-clause-fits c =
    let trees = c.args.pool.now.trees in
    let node = c.in_ok-node.node in
    omega (arith, c.requires.fits, size_node (tree_at trees c.args.branch) node.head (tree_at trees node.first) (tree_at trees node.second) c.in_ok-node.ensures.node)

pub overflow_add-result-in-Branch : goal.overflow_add-result-in-Branch
overflow_add-result-in-Branch c =
    let trees = c.args.pool.now.trees in
    let node = c.in_ok-node.node in
    omega (arith, c.requires.fits, c.size_below-indices.ensures, c.guards.ensures, guards_few (tree_at trees node.second), ap weight c.in-Branch.is, size_node (tree_at trees c.args.branch) node.head (tree_at trees node.first) (tree_at trees node.second) c.in_ok-node.ensures.node)

pub returns-in-Branch-clause-few : goal.returns-in-Branch-clause-few
returns-in-Branch-clause-few c =
    let trees = c.args.pool.now.trees in
    let node = c.in_ok-node.node in
    omega (arith, c.size_below-indices.ensures, c.guards.ensures, guards_few (tree_at trees node.second), ap weight c.in-Branch.is, size_node (tree_at trees c.args.branch) node.head (tree_at trees node.first) (tree_at trees node.second) c.in_ok-node.ensures.node)
