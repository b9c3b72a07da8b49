use Rattle.std.proofs.Common.{rules, ◌≡◌, ◌+◌, ◌<◌, arith, ap, length, ◌∙◌}
use Rattle.cv_syntax_trees.specs.Tree.{second_place, size}
use Rattle.cv_syntax.specs.PoolTrees.{tree_at}
use Rattle.cv_syntax.specs.Walks.{above}
use Rattle.cv_syntax.proofs.Trees.{child_above, child_live, empty_at, node_at}
use Rattle.cv_syntax.proofs.Walking.{above_child, above_some, size_at, size_end}
use Rattle.cv_query_entries.proofs.Places.{no_places, places_more}
use Rattle.cv_query_entries.proofs.nodes.+add_places.Goals as goal

pub overflow_add-place : goal.overflow_add-place
overflow_add-place t c =
    let s = size_at c.args.pool.now.trees c.tree.below c.in-Some.k c.read_node-node.result c.in-Some.is c.read_node-node.ensures.tree in
    omega (arith, s, c.tree.invariant.sum, c.requires.fits, c.weight.ensures.weight)

pub add_places-requires : goal.add_places-requires
add_places-requires t c =
    let s = size_at c.args.pool.now.trees c.tree.below c.in-Some.k c.read_node-node.result c.in-Some.is c.read_node-node.ensures.tree in
    let k = above_some c.tree.below c.in-Some.k c.in-Some.is in
    let b = above_child c.in-Some.k.0 c.read_node-node.result.first c.read_node-node.ensures.first in
    let less : above c.read_node-node.result.first < above c.args.tree = omega (arith, k, b, c.tree.invariant.less) in
    (search rules, (child_live (length c.args.pool.now.trees) c.tree.below c.in-Some.k c.read_node-node.result.first c.in-Some.is c.tree.invariant.live c.read_node-node.ensures.first, omega (arith, s, c.tree.invariant.sum, c.requires.fits, c.weight.ensures.weight)))

pub tree-preserved : goal.tree-preserved
tree-preserved t c =
    let trees = c.args.pool.now.trees in
    let node = c.read_node-node.result in
    let s = size_at trees c.tree.below c.in-Some.k node c.in-Some.is c.read_node-node.ensures.tree in
    let w = ap (λ n. c.tree.place + n) c.weight.ensures.weight in
    let q : c.in_ok-place.place ≡ second_place c.tree.place node.head (tree_at trees node.first) = c.in_ok-place.ensures.next ∙ ap (λ n. n + size (tree_at trees node.first)) w in
    record {
      live = child_live (length trees) c.tree.below c.in-Some.k node.second c.in-Some.is c.tree.invariant.live c.read_node-node.ensures.second;
      less = child_above _ c.tree.below c.in-Some.k node.second c.in-Some.is c.tree.invariant.less c.read_node-node.ensures.second;
      sum = omega (arith, s, q, c.tree.invariant.sum);
      same = places_more c.args.event c.tree.place (tree_at trees c.tree.below) node.head (tree_at trees node.first) (tree_at trees node.second) c.tree.found.items c.add_place.new.found.items c.add_places.new.found.items (c.tree.place + c.weight.result) c.in_ok-place.place (node_at trees c.tree.below c.in-Some.k node c.in-Some.is c.read_node-node.ensures.tree) c.in_ok-add_place.ensures c.in_ok-place.ensures.places w q ∙ c.tree.invariant.same;
    }

pub returns-clause-places : goal.returns-clause-places
returns-clause-places t c = no_places c.args.event c.tree.place (tree_at c.args.pool.now.trees c.tree.below) c.tree.found.items (empty_at c.args.pool.now.trees c.tree.below c.in_default.is) ∙ c.tree.invariant.same

pub returns-clause-next : goal.returns-clause-next
returns-clause-next t c = omega (arith, c.tree.invariant.sum, size_end c.args.pool.now.trees c.tree.below c.in_default.is)
