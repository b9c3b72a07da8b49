use Rattle.std.proofs.Common.{◌≡◌, ◌≤◌, length}
use Rattle.cv_pool.specs.Nodes.{ChildBelow}
use Rattle.cv_syntax_trees.specs.Tree.{same_tree}
use Rattle.cv_syntax.specs.PoolTrees.{tree_at}
use Rattle.cv_syntax.specs.Walks.{above}
use Rattle.cv_syntax.proofs.compare.+same.Given as goal

abbrev pub decreases-same : goal.decreases-same
decreases-same l = above l.left

abbrev pub invariant-chain : goal.invariant-chain
invariant-chain l = record {
  p : ChildBelow (length l.pool.trees) l.p;
  q : ChildBelow (length l.pool.trees) l.q;
  smaller : above l.p ≤ above l.fn.left;
  same : same_tree (tree_at l.pool.trees l.p) (tree_at l.pool.trees l.q) ≡ same_tree (tree_at l.pool.trees l.fn.left) (tree_at l.pool.trees l.fn.right);
}

abbrev pub decreases-chain : goal.decreases-chain
decreases-chain l = above l.p
