use Rattle.std.proofs.Common.{rules, arith, max, ◌≡◌, ◌+◌, ◌<◌, Some}
use Rattle.cv_syntax_trees.specs.Tree.{depth}
use Rattle.cv_syntax.specs.PoolTrees.{tree_at}
use Rattle.cv_syntax.proofs.Walking.{size_at, size_same, depth_at, depth_same, depth_end, depth_le_size, below_some}
use Rattle.cv_syntax.proofs.walk.+depth.Goals as goal
use Rattle.cv_syntax.proofs.walk.+depth.Goals.{in-Some-first, in-None}

pub overflow_add-above : goal.overflow_add-above
overflow_add-above t c = omega (arith, depth_at c.args.pool.now.trees c.chain.at c.in-Some.k c.read_node-node.result c.in-Some.is c.read_node-node.ensures.tree, depth_le_size (tree_at c.args.pool.now.trees (Some c.args.n)))

pub depth-below-requires : goal.depth-below-requires
depth-below-requires t c =
    let here : c.in-Some.k.0 < c.args.n.0 + 1 = below_some (c.args.n.0 + 1) c.chain.at c.in-Some.k c.in-Some.is c.chain.invariant.below in
    let below : c.in-Some-first.first.0 < c.in-Some.k.0 = below_some c.in-Some.k.0 c.read_node-node.result.first c.in-Some-first.first c.in-Some-first.is c.read_node-node.ensures.first in
    (search rules, (omega arith, omega (arith, size_at c.args.pool.now.trees c.chain.at c.in-Some.k c.read_node-node.result c.in-Some.is c.read_node-node.ensures.tree, size_same c.args.pool.now.trees c.read_node-node.result.first (Some c.in-Some-first.first) c.in-Some-first.is)))

pub overflow_add-above-in-Some : goal.overflow_add-above-in-Some
overflow_add-above-in-Some t c =
    let below : c.match-node.below ≡ depth (tree_at c.args.pool.now.trees c.read_node-node.result.first) =
    elim c.match-node.branch [
      | in-Some-first w ↦ omega (arith, w.depth-below.ensures, w.below-is, depth_same c.args.pool.now.trees c.read_node-node.result.first (Some w.in-Some-first.first) w.in-Some-first.is)
      | in-None w ↦ omega (arith, w.below-is, depth_end c.args.pool.now.trees c.read_node-node.result.first w.in-None.is)
    ]
    in omega (arith, depth_at c.args.pool.now.trees c.chain.at c.in-Some.k c.read_node-node.result c.in-Some.is c.read_node-node.ensures.tree, depth_le_size (tree_at c.args.pool.now.trees (Some c.args.n)))

pub chain-preserved : goal.chain-preserved
chain-preserved t c =
    let below : c.match-node.below ≡ depth (tree_at c.args.pool.now.trees c.read_node-node.result.first) =
    elim c.match-node.branch [
      | in-Some-first w ↦ omega (arith, w.depth-below.ensures, w.below-is, depth_same c.args.pool.now.trees c.read_node-node.result.first (Some w.in-Some-first.first) w.in-Some-first.is)
      | in-None w ↦ omega (arith, w.below-is, depth_end c.args.pool.now.trees c.read_node-node.result.first w.in-None.is)
    ]
    in
    let deepest : c.max-deepest.result ≡ max c.chain.deepest (c.chain.above + c.weight-above.result + c.match-node.below) = search rules in
    record {
      below = search rules;
      small = omega (arith, size_at c.args.pool.now.trees c.chain.at c.in-Some.k c.read_node-node.result c.in-Some.is c.read_node-node.ensures.tree);
      deepest = omega (arith, depth_at c.args.pool.now.trees c.chain.at c.in-Some.k c.read_node-node.result c.in-Some.is c.read_node-node.ensures.tree);
      over = omega arith;
    }

pub returns : goal.returns
returns t c = omega (arith, depth_end c.args.pool.now.trees c.chain.at c.in_default.is)
