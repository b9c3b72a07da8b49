use Rattle.std.proofs.Common.{rules, arith, ap, length, map, ◌+◌, ◌<◌, ◌∙◌}
use Rattle.cv_syntax_trees.specs.Tree.{size}
use Rattle.cv_syntax.specs.PoolTrees.{tree_at}
use Rattle.cv_syntax.specs.Walks.{above}
use Rattle.cv_syntax.proofs.Trees.{child_above, child_live, empty_at, node_at}
use Rattle.cv_syntax.proofs.Walking.{above_child, above_some, size_at, size_end}
use Rattle.cv_query_offences.specs.Copies.{copy_seen}
use Rattle.cv_query_offences.proofs.CopyWalks.{copies_more, no_copies}
use Rattle.cv_query_offences.proofs.cells.+add_copies.Goals as goal

pub overflow_add-place : goal.overflow_add-place
overflow_add-place t c =
    let s = size_at c.args.pool.now.trees c.tree.at c.in-Some.k c.read_node-node.result c.in-Some.is c.read_node-node.ensures.tree in
    omega (arith, s, c.tree.invariant.sum, c.requires.fits, c.weight.ensures.weight)

pub add_copies-requires : goal.add_copies-requires
add_copies-requires t c =
    let trees = c.args.pool.now.trees in
    let node = c.read_node-node.result in
    let s = size_at trees c.tree.at c.in-Some.k node c.in-Some.is c.read_node-node.ensures.tree in
    let k = above_some c.tree.at c.in-Some.k c.in-Some.is in
    let b = above_child c.in-Some.k.0 node.first c.read_node-node.ensures.first in
    let less : above node.first < above c.args.tree = omega (arith, k, b, c.tree.invariant.less) in
    (search rules, (child_live (length trees) c.tree.at c.in-Some.k node.first c.in-Some.is c.tree.invariant.live c.read_node-node.ensures.first, (omega (arith, s, c.tree.invariant.sum, c.requires.fits, c.weight.ensures.weight), c.in_ok-add_copy.ensures.live)))

pub tree-preserved : goal.tree-preserved
tree-preserved t c =
    let trees = c.args.pool.now.trees in
    let node = c.read_node-node.result in
    let f = copy_seen trees in
    let s = size_at trees c.tree.at c.in-Some.k node c.in-Some.is c.read_node-node.ensures.tree in
    let w = ap (λ n. c.tree.place + n) c.weight.ensures.weight in
    let q = c.in_ok-place.ensures.next ∙ ap (λ n. n + size (tree_at trees node.first)) w in
    record {
      live = child_live (length trees) c.tree.at c.in-Some.k node.second c.in-Some.is c.tree.invariant.live c.read_node-node.ensures.second;
      less = child_above _ c.tree.at c.in-Some.k node.second c.in-Some.is c.tree.invariant.less c.read_node-node.ensures.second;
      sum = omega (arith, s, q, c.tree.invariant.sum);
      found = c.in_ok-place.ensures.live;
      same = copies_more c.args.x c.tree.place (tree_at trees c.tree.at) node.head (tree_at trees node.first) (tree_at trees node.second) (map f c.tree.found.items) (map f c.add_copy.new.found.items) (map f c.add_copies.new.found.items) _ _ (node_at trees c.tree.at c.in-Some.k node c.in-Some.is c.read_node-node.ensures.tree) c.in_ok-add_copy.ensures.copies w c.in_ok-place.ensures.copies q ∙ c.tree.invariant.same;
    }

pub returns-clause-copies : goal.returns-clause-copies
returns-clause-copies t c =
    let trees = c.args.pool.now.trees in
    no_copies c.args.x c.tree.place (tree_at trees c.tree.at) (map (copy_seen trees) c.tree.found.items) (empty_at trees c.tree.at c.in_default.is) ∙ c.tree.invariant.same

pub returns-clause-next : goal.returns-clause-next
returns-clause-next t c = omega (arith, c.tree.invariant.sum, size_end c.args.pool.now.trees c.tree.at c.in_default.is)
