use Rattle.std.proofs.Common.{rules, arith, ap, true, false, length, ◌∙◌, ◌≡◌, ◌<◌}
use Rattle.cv_syntax.specs.PoolTrees.{tree_at}
use Rattle.cv_syntax.specs.Walks.{above}
use Rattle.cv_syntax.proofs.Trees.{child_live, empty_at}
use Rattle.cv_syntax.proofs.Walking.{above_child, above_some, size_node}
use Rattle.cv_meaning.specs.Still.{defines}
use Rattle.cv_steps.specs.Changes.{only}
use Rattle.cv_edit_places.proofs.Lists.{size_without_law, size_ends, size_gone, size_stays}
use Rattle.cv_edit_places.proofs.dropping.+size_without.Goals as goal

pub overflow_add-total : goal.overflow_add-total
overflow_add-total t c =
    let trees = c.args.pool.now.trees in
    let node = c.read_node-node.result in
    let e = ap (tree_at trees) c.in-Some.is ∙ c.read_node-node.ensures.tree in
    let d : defines (only c.args.x) node.head ≡ false = search rules in
    omega (arith, c.chain.invariant.total, size_stays c.args.x (tree_at trees c.chain.at) node.head (tree_at trees node.first) (tree_at trees node.second) e d, size_without_law c.args.x (tree_at trees c.args.start))

pub size_without-total-requires : goal.size_without-total-requires
size_without-total-requires t c =
    let trees = c.args.pool.now.trees in
    let node = c.read_node-node.result in
    let e = ap (tree_at trees) c.in-Some.is ∙ c.read_node-node.ensures.tree in
    let less : above node.first < above c.args.start = omega (arith, c.chain.invariant.below, above_some c.chain.at c.in-Some.k c.in-Some.is, above_child c.in-Some.k.0 node.first c.read_node-node.ensures.first) in
    (search rules, (child_live (length trees) c.chain.at c.in-Some.k node.first c.in-Some.is c.chain.invariant.live c.read_node-node.ensures.first, omega (arith, c.chain.invariant.small, size_node (tree_at trees c.chain.at) node.head (tree_at trees node.first) (tree_at trees node.second) e)))

pub overflow_add-total-then-not-defines : goal.overflow_add-total-then-not-defines
overflow_add-total-then-not-defines t c =
    let trees = c.args.pool.now.trees in
    let node = c.read_node-node.result in
    let e = ap (tree_at trees) c.in-Some.is ∙ c.read_node-node.ensures.tree in
    let d : defines (only c.args.x) node.head ≡ false = search rules in
    omega (arith, c.size_without-total.ensures, c.chain.invariant.total, size_stays c.args.x (tree_at trees c.chain.at) node.head (tree_at trees node.first) (tree_at trees node.second) e d, size_without_law c.args.x (tree_at trees c.args.start))

pub chain-preserved-then-not-defines : goal.chain-preserved-then-not-defines
chain-preserved-then-not-defines t c =
    let trees = c.args.pool.now.trees in
    let node = c.read_node-node.result in
    let e = ap (tree_at trees) c.in-Some.is ∙ c.read_node-node.ensures.tree in
    let d : defines (only c.args.x) node.head ≡ false = search rules in
    record {
      below = omega (arith, c.chain.invariant.below, above_some c.chain.at c.in-Some.k c.in-Some.is, above_child c.in-Some.k.0 node.second c.read_node-node.ensures.second);
      live = child_live (length trees) c.chain.at c.in-Some.k node.second c.in-Some.is c.chain.invariant.live c.read_node-node.ensures.second;
      small = omega (arith, c.chain.invariant.small, size_node (tree_at trees c.chain.at) node.head (tree_at trees node.first) (tree_at trees node.second) e);
      total = omega (arith, c.size_without-total.ensures, c.chain.invariant.total, size_stays c.args.x (tree_at trees c.chain.at) node.head (tree_at trees node.first) (tree_at trees node.second) e d);
    }

pub chain-preserved : goal.chain-preserved
chain-preserved t c =
    let trees = c.args.pool.now.trees in
    let node = c.read_node-node.result in
    let e = ap (tree_at trees) c.in-Some.is ∙ c.read_node-node.ensures.tree in
    let d : defines (only c.args.x) node.head ≡ true = search rules in
    record {
      below = omega (arith, c.chain.invariant.below, above_some c.chain.at c.in-Some.k c.in-Some.is, above_child c.in-Some.k.0 node.second c.read_node-node.ensures.second);
      live = child_live (length trees) c.chain.at c.in-Some.k node.second c.in-Some.is c.chain.invariant.live c.read_node-node.ensures.second;
      small = omega (arith, c.chain.invariant.small, size_node (tree_at trees c.chain.at) node.head (tree_at trees node.first) (tree_at trees node.second) e);
      total = omega (arith, c.chain.invariant.total, size_gone c.args.x (tree_at trees c.chain.at) node.head (tree_at trees node.first) (tree_at trees node.second) e d);
    }

pub returns : goal.returns
returns t c = omega (arith, c.chain.invariant.total, size_ends c.args.x (tree_at c.args.pool.now.trees c.chain.at) (empty_at c.args.pool.now.trees c.chain.at c.in_default.is))
