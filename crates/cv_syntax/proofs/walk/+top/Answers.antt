use Rattle.std.proofs.Common.{arith, length, sym, ap, subst, ◌≡◌, ◌-◌, ◌<◌, Ok, Err, List}
use Rattle.cv_syntax_trees.specs.Head.{weight}
use Rattle.cv_syntax_trees.specs.Tree.{Tree, tops}
use Rattle.cv_syntax.specs.PoolTrees.{tree_at}
use Rattle.cv_syntax.specs.Walks.{above, Reaches}
use Rattle.cv_syntax.proofs.Walking.{reach_here, reach_past, reach_left, reach_right, tops_at, tops_end, above_child, above_some, below_some, live_child}
use Rattle.cv_syntax.proofs.walk.+top.Goals as goal

pub returns-then-left-eq0 : goal.returns-then-left-eq0
returns-then-left-eq0 t c =
    let zero : c.chain.left ≡ 0 = omega arith in
    c.chain.invariant.reaches (Ok c.in-Some.k) (subst (λ n. Reaches c.args.pool.now.trees (tops (tree_at c.args.pool.now.trees c.chain.at)) (above c.args.start) n (Ok c.in-Some.k)) (sym zero) (reach_here c.args.pool.now.trees c.chain.at c.in-Some.k c.read_node-node.result (above c.args.start) c.in-Some.is c.read_node-node.ensures.tree (omega arith) (omega (arith, above_some c.chain.at c.in-Some.k c.in-Some.is))))

pub returns-else-left-eq0 : goal.returns-else-left-eq0
returns-else-left-eq0 t c = c.chain.invariant.reaches (Err (c.chain.left - 1)) (reach_past c.args.pool.now.trees c.chain.at c.in-Some.k c.read_node-node.result (above c.args.start) c.chain.left (c.chain.left - 1) c.in-Some.is c.read_node-node.ensures.tree (omega arith) (omega arith))

pub returns-in-Ok : goal.returns-in-Ok
returns-in-Ok t c =
    c.chain.invariant.reaches (Ok c.in-Ok.found) (subst (λ (ts : List Tree). Reaches c.args.pool.now.trees ts (above c.args.start) c.chain.left (Ok c.in-Ok.found)) (sym (tops_at c.args.pool.now.trees c.chain.at c.in-Some.k c.read_node-node.result c.in-Some.is c.read_node-node.ensures.tree (omega arith) (λ (w : weight c.read_node-node.result.head ≡ 1). c.if-weight-eq1.false (omega arith)))) (reach_left c.args.pool.now.trees (tops (tree_at c.args.pool.now.trees c.read_node-node.result.first)) (tops (tree_at c.args.pool.now.trees c.read_node-node.result.second)) (above c.read_node-node.result.first) (above c.args.start) c.chain.left c.in-Ok.found (omega (arith, above_some c.chain.at c.in-Some.k c.in-Some.is, above_child c.in-Some.k.0 c.read_node-node.result.first c.read_node-node.ensures.first)) c.in-Ok.ensures))

pub chain-preserved : goal.chain-preserved
chain-preserved t c = record {
  below = omega (arith, above_some c.chain.at c.in-Some.k c.in-Some.is, above_child c.in-Some.k.0 c.read_node-node.result.second c.read_node-node.ensures.second);
  live = let k : c.in-Some.k.0 < length c.args.pool.now.trees = below_some (length c.args.pool.now.trees) c.chain.at c.in-Some.k c.in-Some.is c.chain.invariant.live in live_child (length c.args.pool.now.trees) c.in-Some.k.0 c.read_node-node.result.second (omega arith) c.read_node-node.ensures.second;
  reaches = λ r h. c.chain.invariant.reaches r (subst (λ (ts : List Tree). Reaches c.args.pool.now.trees ts (above c.args.start) c.chain.left r) (sym (tops_at c.args.pool.now.trees c.chain.at c.in-Some.k c.read_node-node.result c.in-Some.is c.read_node-node.ensures.tree (omega arith) (λ (w : weight c.read_node-node.result.head ≡ 1). c.if-weight-eq1.false (omega arith)))) (reach_right c.args.pool.now.trees (tops (tree_at c.args.pool.now.trees c.read_node-node.result.first)) (tops (tree_at c.args.pool.now.trees c.read_node-node.result.second)) (above c.read_node-node.result.first) (above c.args.start) c.chain.left c.in-Err.rest r c.in-Err.ensures h));
}

pub returns : goal.returns
returns t c = c.chain.invariant.reaches (Err c.chain.left) (omega (arith, ap length (tops_end c.args.pool.now.trees c.chain.at c.in_default.is)))
