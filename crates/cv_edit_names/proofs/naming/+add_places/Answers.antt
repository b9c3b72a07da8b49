use Rattle.std.proofs.Common.{◌≡◌, ◌+◌, ◌≤◌, rules, arith, ap, sym, ◌∙◌, append-nil}
use Rattle.cv_syntax_trees.specs.Head.{weight}
use Rattle.cv_syntax_trees.specs.Tree.{size}
use Rattle.cv_syntax.specs.PoolTrees.{tree_at}
use Rattle.cv_syntax.specs.Walks.{above}
use Rattle.cv_syntax.proofs.Trees.{child_live, empty_at, size_Empty}
use Rattle.cv_syntax.proofs.Walking.{above_child, above_some, size_node}
use Rattle.std.proofs.Common.{◌++◌}
use Rattle.cv_derive_facts.specs.Definitions.{places_of}
use Rattle.cv_edit_names.proofs.NamedPlaces.{places_end, places_go}
use Rattle.cv_edit_names.proofs.naming.+add_places.Goals as goal

pub overflow_add-here : goal.overflow_add-here
overflow_add-here t c =
    let trees = c.args.pool.now.trees in
    let node = c.read_node-node.result in
    let z = size_node (tree_at trees c.chain.at) node.head (tree_at trees node.first) (tree_at trees node.second) (ap (tree_at trees) c.in-Some.is ∙ c.read_node-node.ensures.tree) in
    omega (arith, z, c.chain.invariant.place, c.requires.fits, c.weight.ensures.weight)

pub add_places-requires : goal.add_places-requires
add_places-requires t c =
    let trees = c.args.pool.now.trees in
    let node = c.read_node-node.result in
    let z = size_node (tree_at trees c.chain.at) node.head (tree_at trees node.first) (tree_at trees node.second) (ap (tree_at trees) c.in-Some.is ∙ c.read_node-node.ensures.tree) in
    let k = above_some c.chain.at c.in-Some.n c.in-Some.is in
    let b = above_child c.in-Some.n.0 node.first c.read_node-node.ensures.first in
    let less : above node.first + 1 ≤ above c.args.tree = omega (arith, k, b, c.chain.invariant.smaller) in
    (search (rules, arith), (child_live _ c.chain.at c.in-Some.n node.first c.in-Some.is c.chain.invariant.live c.read_node-node.ensures.first, omega (arith, z, c.chain.invariant.place, c.requires.fits, c.weight.ensures.weight)))

pub chain-preserved : goal.chain-preserved
chain-preserved t c =
    let trees = c.args.pool.now.trees in
    let node = c.read_node-node.result in
    let here = ap (tree_at trees) c.in-Some.is ∙ c.read_node-node.ensures.tree in
    let s = size_node (tree_at trees c.chain.at) node.head (tree_at trees node.first) (tree_at trees node.second) here in
    let w : c.weight.result ≡ weight node.head = c.weight.ensures.weight in
    let p : c.in_ok-next.next ≡ c.chain.here + weight node.head + size (tree_at trees node.first) = omega (arith, c.in_ok-next.ensures.place, w) in
    record {
      live = child_live _ c.chain.at c.in-Some.n node.second c.in-Some.is c.chain.invariant.live c.read_node-node.ensures.second;
      smaller = omega (arith, above_some c.chain.at c.in-Some.n c.in-Some.is, above_child c.in-Some.n.0 node.second c.read_node-node.ensures.second, c.chain.invariant.smaller);
      place = omega (arith, p, s, c.chain.invariant.place);
      places = places_go c.args.x c.chain.here c.in_ok-next.next (tree_at trees c.chain.at) node.head (tree_at trees node.first) (tree_at trees node.second) c.is_definition.result c.chain.places.items c.add_place.new.places.items c.add_places.new.places.items _ here c.is_definition.ensures c.in_ok-add_place.ensures (c.in_ok-next.ensures.places ∙ ap (λ n. c.add_place.new.places.items ++ places_of c.args.x (c.chain.here + n) (tree_at trees node.first)) w) p c.chain.invariant.places;
    }

pub returns-clause-place : goal.returns-clause-place
returns-clause-place t c = omega (arith, c.chain.invariant.place, size_Empty (tree_at c.args.pool.now.trees c.chain.at) (empty_at c.args.pool.now.trees c.chain.at c.in_default.is))

pub returns-clause-places : goal.returns-clause-places
returns-clause-places t c = sym (append-nil c.chain.places.items) ∙ (sym (places_end c.args.x c.chain.here (tree_at c.args.pool.now.trees c.chain.at) c.chain.places.items (empty_at c.args.pool.now.trees c.chain.at c.in_default.is)) ∙ c.chain.invariant.places)
