use Rattle.std.proofs.Common.{rules, ◌<◌, arith, length}
use Rattle.cv_syntax.specs.PoolTrees.{tree_at}
use Rattle.cv_syntax.specs.Walks.{above}
use Rattle.cv_syntax.proofs.Trees.{child_above, child_live, empty_at, node_at}
use Rattle.cv_syntax.proofs.Walking.{above_child, above_some, size_at}
use Rattle.cv_match_terms.proofs.uses.Walked.{uses_end, uses_few, uses_node}
use Rattle.cv_match_terms.proofs.uses.numbers.+uses.Goals as goal

pub overflow_add-total : goal.overflow_add-total
overflow_add-total t c =
    let trees = c.args.pool.now.trees in
    let node = c.read_node-node.result in
    let u = uses_node c.args.x (tree_at trees c.tree.at) node.head (tree_at trees node.first) (tree_at trees node.second) (node_at trees c.tree.at c.in-Some.k node c.in-Some.is c.read_node-node.ensures.tree) in
    omega (arith, u, c.tree.invariant.same, c.use_here-total.ensures, uses_few c.args.x (tree_at trees c.args.tree), c.requires.fits)

pub uses-total-requires : goal.uses-total-requires
uses-total-requires t c =
    let trees = c.args.pool.now.trees in
    let s = size_at trees c.tree.at c.in-Some.k c.read_node-node.result c.in-Some.is c.read_node-node.ensures.tree in
    let k = above_some c.tree.at c.in-Some.k c.in-Some.is in
    let b = above_child c.in-Some.k.0 c.read_node-node.result.first c.read_node-node.ensures.first in
    let less : above c.read_node-node.result.first < above c.args.tree = omega (arith, k, b, c.tree.invariant.less) in
    (search rules, (child_live (length trees) c.tree.at c.in-Some.k c.read_node-node.result.first c.in-Some.is c.tree.invariant.live c.read_node-node.ensures.first, omega (arith, s, c.tree.invariant.small, c.requires.fits)))

pub overflow_add-total-in-Some : goal.overflow_add-total-in-Some
overflow_add-total-in-Some t c =
    let trees = c.args.pool.now.trees in
    let node = c.read_node-node.result in
    let u = uses_node c.args.x (tree_at trees c.tree.at) node.head (tree_at trees node.first) (tree_at trees node.second) (node_at trees c.tree.at c.in-Some.k node c.in-Some.is c.read_node-node.ensures.tree) in
    omega (arith, u, c.tree.invariant.same, c.use_here-total.ensures, c.uses-total.ensures, uses_few c.args.x (tree_at trees c.args.tree), c.requires.fits)

pub tree-preserved : goal.tree-preserved
tree-preserved t c =
    let trees = c.args.pool.now.trees in
    let node = c.read_node-node.result in
    let u = uses_node c.args.x (tree_at trees c.tree.at) node.head (tree_at trees node.first) (tree_at trees node.second) (node_at trees c.tree.at c.in-Some.k node c.in-Some.is c.read_node-node.ensures.tree) in
    let s = size_at trees c.tree.at c.in-Some.k node c.in-Some.is c.read_node-node.ensures.tree in
    record {
      live = child_live (length trees) c.tree.at c.in-Some.k node.second c.in-Some.is c.tree.invariant.live c.read_node-node.ensures.second;
      less = child_above _ c.tree.at c.in-Some.k node.second c.in-Some.is c.tree.invariant.less c.read_node-node.ensures.second;
      small = omega (arith, s, c.tree.invariant.small);
      same = omega (arith, u, c.tree.invariant.same, c.use_here-total.ensures, c.uses-total.ensures);
    }

pub returns : goal.returns
returns t c = omega (arith, c.tree.invariant.same, uses_end c.args.x (tree_at c.args.pool.now.trees c.tree.at) (empty_at c.args.pool.now.trees c.tree.at c.in_default.is))
