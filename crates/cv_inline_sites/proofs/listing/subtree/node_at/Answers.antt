use Rattle.std.proofs.Common.{◌+◌, ap, arith, length}
use Rattle.cv_syntax.proofs.Trees.{child_live, empty_at}
use Rattle.cv_syntax.proofs.Trees as trees_of
use Rattle.cv_syntax.proofs.Walking.{above_child, above_some, size_at}
use Rattle.cv_inline_sites.proofs.listing.subtree.node_at.Goals as goal

pub returns-in_err-tree-clause-none : goal.returns-in_err-tree-clause-none
returns-in_err-tree-clause-none c = rw c.from_residual.ensures (empty_at c.args.pool.now.trees c.args.tree.root c.in_err-tree.was)

pub overflow_add-first : goal.overflow_add-first
overflow_add-first c =
    let s = size_at c.args.pool.now.trees c.args.tree.root c.in_ok-tree.field-0 c.read_node-node.result c.in_ok-tree.was c.read_node-node.ensures.tree in
    omega (arith, c.requires.fits, c.weight.ensures.weight, s)

pub size_below-requires-clause-fits : goal.size_below-requires-clause-fits
size_below-requires-clause-fits c =
    let s = size_at c.args.pool.now.trees c.args.tree.root c.in_ok-tree.field-0 c.read_node-node.result c.in_ok-tree.was c.read_node-node.ensures.tree in
    omega (arith, c.requires.fits, s)

pub overflow_add-second : goal.overflow_add-second
overflow_add-second c =
    let s = size_at c.args.pool.now.trees c.args.tree.root c.in_ok-tree.field-0 c.read_node-node.result c.in_ok-tree.was c.read_node-node.ensures.tree in
    omega (arith, c.requires.fits, c.weight.ensures.weight, c.size_below.ensures, s)

pub returns-clause-node : goal.returns-clause-node
returns-clause-node c =
    let trees = c.args.pool.now.trees in
    let root = c.args.tree.root in
    let k = c.in_ok-tree.field-0 in
    let node = c.read_node-node.result in
    let s = size_at trees root k node c.in_ok-tree.was c.read_node-node.ensures.tree in
    let up = above_some root k c.in_ok-tree.was in
    record {
      tree = trees_of.node_at trees root k node c.in_ok-tree.was c.read_node-node.ensures.tree;
      first_place = ap (λ w. c.args.tree.place + w) c.weight.ensures.weight;
      second_place = omega (arith, c.weight.ensures.weight, c.size_below.ensures);
      first = record {
        within = record {
          live = child_live (length trees) root k node.first c.in_ok-tree.was c.requires.live c.read_node-node.ensures.first;
          fits = omega (arith, c.requires.fits, c.weight.ensures.weight, s);
        };
        below = omega (arith, up, above_child k.0 node.first c.read_node-node.ensures.first);
      };
      second = record {
        within = record {
          live = child_live (length trees) root k node.second c.in_ok-tree.was c.requires.live c.read_node-node.ensures.second;
          fits = omega (arith, c.requires.fits, c.weight.ensures.weight, c.size_below.ensures, s);
        };
        below = omega (arith, up, above_child k.0 node.second c.read_node-node.ensures.second);
      };
    }
