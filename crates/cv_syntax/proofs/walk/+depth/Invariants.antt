use Rattle.std.proofs.Common.{◌≡◌, ◌+◌, ◌≤◌, max, Some}
use Rattle.cv_pool.specs.Nodes.{ChildBelow}
use Rattle.cv_syntax_trees.specs.Tree as tree
use Rattle.cv_syntax.specs.PoolTrees.{tree_at}
use Rattle.cv_syntax.specs.Walks.{above}
use Rattle.cv_syntax.proofs.walk.+depth.Given as goal

abbrev pub decreases-depth : goal.decreases-depth
decreases-depth l = l.n.0

abbrev pub decreases-chain : goal.decreases-chain
decreases-chain l = above l.at

abbrev pub invariant-chain : goal.invariant-chain
invariant-chain l = record {
  below : ChildBelow (l.fn.n.0 + 1) l.at;
  small : tree.size (tree_at l.pool.trees l.at) ≤ tree.size (tree_at l.pool.trees (Some l.fn.n));
  deepest : max l.deepest (l.above + tree.depth (tree_at l.pool.trees l.at)) ≡ tree.depth (tree_at l.pool.trees (Some l.fn.n));
  over : l.above ≤ l.deepest;
}
