use Rattle.std.proofs.Common.{◌≤◌, ℕ, length}
use Rattle.std.specs.Prelude.{Result}
use Rattle.cv_pool.specs.declared.node.NodeId.{NodeId}
use Rattle.cv_pool.specs.Nodes.{ChildBelow}
use Rattle.cv_syntax_trees.specs.Tree as tree
use Rattle.cv_syntax.specs.PoolTrees.{tree_at}
use Rattle.cv_syntax.specs.Walks.{above, Reaches}
use Rattle.cv_syntax.proofs.walk.+top.Given as goal

abbrev pub decreases-top : goal.decreases-top
decreases-top l = above l.start

abbrev pub decreases-chain : goal.decreases-chain
decreases-chain l = above l.at

abbrev pub invariant-chain : goal.invariant-chain
invariant-chain l = record {
  below : above l.at ≤ above l.fn.start;
  live : ChildBelow (length l.pool.trees) l.at;
  reaches : (r : Result NodeId ℕ) → Reaches l.pool.trees (tree.tops (tree_at l.pool.trees l.at)) (above l.fn.start) l.left r → Reaches l.pool.trees (tree.tops (tree_at l.pool.trees l.fn.start)) (above l.fn.start) l.fn.place r;
}
