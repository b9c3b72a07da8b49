use Rattle.std.proofs.Common.{rules, ◌<◌, arith, length}
use Rattle.cv_syntax.specs.PoolTrees.{tree_at}
use Rattle.cv_syntax.specs.Walks.{above}
use Rattle.cv_syntax.proofs.Trees.{child_above, child_live, empty_at, node_at}
use Rattle.cv_syntax.proofs.Walking.{above_child, above_some, size_at}
use Rattle.cv_rule_codef.proofs.Looks.{sites_empty, sites_node, sites_small}
use Rattle.cv_rule_codef.proofs.adjacent.+sites.Goals as goal

pub overflow_add-count : goal.overflow_add-count
overflow_add-count t c =
    let trees = c.args.pool.now.trees in
    let node = c.read_node-node.result in
    let s = sites_node c.args.x (tree_at trees c.tree.at) node.head (tree_at trees node.first) (tree_at trees node.second) (node_at trees c.tree.at c.in-Some.k node c.in-Some.is c.read_node-node.ensures.tree) in
    omega (arith, s, c.tree.invariant.sum, c.requires.fits, c.site_here-count.ensures, sites_small c.args.x (tree_at trees c.args.tree))

pub sites-count-requires : goal.sites-count-requires
sites-count-requires t c =
    let trees = c.args.pool.now.trees in
    let node = c.read_node-node.result in
    let s = size_at trees c.tree.at c.in-Some.k node c.in-Some.is c.read_node-node.ensures.tree in
    let k = above_some c.tree.at c.in-Some.k c.in-Some.is in
    let b = above_child c.in-Some.k.0 node.first c.read_node-node.ensures.first in
    let less : above node.first < above c.args.tree = omega (arith, k, b, c.tree.invariant.less) in
    (search rules, (child_live (length trees) c.tree.at c.in-Some.k node.first c.in-Some.is c.tree.invariant.live c.read_node-node.ensures.first, omega (arith, s, c.tree.invariant.small, c.requires.fits)))

pub overflow_add-count-in-Some : goal.overflow_add-count-in-Some
overflow_add-count-in-Some t c =
    let trees = c.args.pool.now.trees in
    let node = c.read_node-node.result in
    let s = sites_node c.args.x (tree_at trees c.tree.at) node.head (tree_at trees node.first) (tree_at trees node.second) (node_at trees c.tree.at c.in-Some.k node c.in-Some.is c.read_node-node.ensures.tree) in
    omega (arith, s, c.tree.invariant.sum, c.requires.fits, c.site_here-count.ensures, c.sites-count.ensures, sites_small c.args.x (tree_at trees c.args.tree))

pub tree-preserved : goal.tree-preserved
tree-preserved t c =
    let trees = c.args.pool.now.trees in
    let node = c.read_node-node.result in
    let s = sites_node c.args.x (tree_at trees c.tree.at) node.head (tree_at trees node.first) (tree_at trees node.second) (node_at trees c.tree.at c.in-Some.k node c.in-Some.is c.read_node-node.ensures.tree) in
    let z = size_at trees c.tree.at c.in-Some.k node c.in-Some.is c.read_node-node.ensures.tree in
    record {
      live = child_live (length trees) c.tree.at c.in-Some.k node.second c.in-Some.is c.tree.invariant.live c.read_node-node.ensures.second;
      less = child_above _ c.tree.at c.in-Some.k node.second c.in-Some.is c.tree.invariant.less c.read_node-node.ensures.second;
      small = omega (arith, z, c.tree.invariant.small);
      sum = omega (arith, s, c.tree.invariant.sum, c.site_here-count.ensures, c.sites-count.ensures);
    }

pub returns : goal.returns
returns t c = omega (arith, c.tree.invariant.sum, sites_empty c.args.x (tree_at c.args.pool.now.trees c.tree.at) (empty_at c.args.pool.now.trees c.tree.at c.in_default.is))
