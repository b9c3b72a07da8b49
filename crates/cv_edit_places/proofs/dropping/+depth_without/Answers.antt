use Rattle.std.proofs.Common.{rules, arith, ap, true, false, length, ◌∙◌, ◌≡◌, ◌<◌, ◌+◌, max}
use Rattle.cv_syntax.specs.PoolTrees.{tree_at}
use Rattle.cv_syntax.specs.Walks.{above}
use Rattle.cv_syntax.proofs.Trees.{child_live, empty_at}
use Rattle.cv_syntax.proofs.Walking.{above_child, above_some, depth_le_size, size_node}
use Rattle.cv_meaning.specs.Still.{defines}
use Rattle.cv_steps.specs.Changes.{without, only}
use Rattle.cv_edit_places.proofs.Lists.{size_without_law, depth_ends, depth_of_gone, depth_stays}
use Rattle.cv_edit_places.proofs.dropping.+depth_without.Goals as goal

pub overflow_add-above : goal.overflow_add-above
overflow_add-above t c =
    let trees = c.args.pool.now.trees in
    let node = c.read_node-node.result in
    let e = ap (tree_at trees) c.in-Some.is ∙ c.read_node-node.ensures.tree in
    let d : defines (only c.args.x) node.head ≡ false = search rules in
    omega (arith, c.chain.invariant.deepest, depth_stays c.args.x (tree_at trees c.chain.at) node.head (tree_at trees node.first) (tree_at trees node.second) e d, size_without_law c.args.x (tree_at trees c.args.start), depth_le_size (without (only c.args.x) (tree_at trees c.args.start)))

pub depth_without-requires : goal.depth_without-requires
depth_without-requires t c =
    let trees = c.args.pool.now.trees in
    let node = c.read_node-node.result in
    let e = ap (tree_at trees) c.in-Some.is ∙ c.read_node-node.ensures.tree in
    let less : above node.first < above c.args.start = omega (arith, c.chain.invariant.below, above_some c.chain.at c.in-Some.k c.in-Some.is, above_child c.in-Some.k.0 node.first c.read_node-node.ensures.first) in
    (search rules, (child_live (length trees) c.chain.at c.in-Some.k node.first c.in-Some.is c.chain.invariant.live c.read_node-node.ensures.first, omega (arith, c.chain.invariant.small, size_node (tree_at trees c.chain.at) node.head (tree_at trees node.first) (tree_at trees node.second) e)))

pub overflow_add-above-then-not-defines : goal.overflow_add-above-then-not-defines
overflow_add-above-then-not-defines t c =
    let trees = c.args.pool.now.trees in
    let node = c.read_node-node.result in
    let e = ap (tree_at trees) c.in-Some.is ∙ c.read_node-node.ensures.tree in
    let d : defines (only c.args.x) node.head ≡ false = search rules in
    omega (arith, c.depth_without.ensures, c.chain.invariant.deepest, depth_stays c.args.x (tree_at trees c.chain.at) node.head (tree_at trees node.first) (tree_at trees node.second) e d, size_without_law c.args.x (tree_at trees c.args.start), depth_le_size (without (only c.args.x) (tree_at trees c.args.start)))

pub chain-preserved-then-not-defines : goal.chain-preserved-then-not-defines
chain-preserved-then-not-defines t c =
    let trees = c.args.pool.now.trees in
    let node = c.read_node-node.result in
    let e = ap (tree_at trees) c.in-Some.is ∙ c.read_node-node.ensures.tree in
    let d : defines (only c.args.x) node.head ≡ false = search rules in
    let deepest : c.max-deepest.result ≡ max c.chain.deepest (c.chain.above + c.weight-above.result + c.depth_without.result) = search rules in
    record {
      below = omega (arith, c.chain.invariant.below, above_some c.chain.at c.in-Some.k c.in-Some.is, above_child c.in-Some.k.0 node.second c.read_node-node.ensures.second);
      live = child_live (length trees) c.chain.at c.in-Some.k node.second c.in-Some.is c.chain.invariant.live c.read_node-node.ensures.second;
      small = omega (arith, c.chain.invariant.small, size_node (tree_at trees c.chain.at) node.head (tree_at trees node.first) (tree_at trees node.second) e);
      deepest = omega (arith, deepest, c.depth_without.ensures, c.chain.invariant.deepest, depth_stays c.args.x (tree_at trees c.chain.at) node.head (tree_at trees node.first) (tree_at trees node.second) e d);
      over = omega (arith, deepest, c.chain.invariant.over);
    }

pub chain-preserved : goal.chain-preserved
chain-preserved t c =
    let trees = c.args.pool.now.trees in
    let node = c.read_node-node.result in
    let e = ap (tree_at trees) c.in-Some.is ∙ c.read_node-node.ensures.tree in
    let d : defines (only c.args.x) node.head ≡ true = search rules in
    record {
      below = omega (arith, c.chain.invariant.below, above_some c.chain.at c.in-Some.k c.in-Some.is, above_child c.in-Some.k.0 node.second c.read_node-node.ensures.second);
      live = child_live (length trees) c.chain.at c.in-Some.k node.second c.in-Some.is c.chain.invariant.live c.read_node-node.ensures.second;
      small = omega (arith, c.chain.invariant.small, size_node (tree_at trees c.chain.at) node.head (tree_at trees node.first) (tree_at trees node.second) e);
      deepest = omega (arith, c.chain.invariant.deepest, depth_of_gone c.args.x (tree_at trees c.chain.at) node.head (tree_at trees node.first) (tree_at trees node.second) e d);
      over = omega (arith, c.chain.invariant.over);
    }

pub returns : goal.returns
returns t c = omega (arith, c.chain.invariant.over, c.chain.invariant.deepest, depth_ends c.args.x (tree_at c.args.pool.now.trees c.chain.at) (empty_at c.args.pool.now.trees c.chain.at c.in_default.is))
