use Rattle.std.proofs.Common.{◌≡◌, ℕ, ◌+◌, ◌≤◌, max, length}
use Rattle.cv_pool.specs.Nodes.{ChildBelow}
use Rattle.cv_syntax_trees.specs.Tree as tree
use Rattle.cv_syntax.specs.PoolTrees.{tree_at}
use Rattle.cv_syntax.specs.Walks.{above}
use Rattle.cv_scene.specs.Pruning.{branch_body, without_branch}
use Rattle.cv_edit_changes.proofs.pruning.cut.cut_at.Given as goal

abbrev pub invariant-items : goal.invariant-items
invariant-items l = record {
  live : ChildBelow (length l.pool.trees) l.at;
  number : 1 ≤ l.left;
  fewer : l.left ≤ l.fn.k;
  small : l.nodes + tree.size (tree_at l.pool.trees l.at) ≤ tree.size (tree_at l.pool.trees l.fn.list);
  flat : l.depth ≤ l.nodes;
  place : (p : ℕ) → branch_body p (tree_at l.pool.trees l.fn.list) l.fn.k ≡ branch_body (p + l.nodes) (tree_at l.pool.trees l.at) l.left;
  sizes : tree.size (without_branch (tree_at l.pool.trees l.fn.list) l.fn.k) ≡ l.nodes + tree.size (without_branch (tree_at l.pool.trees l.at) l.left);
  depths : tree.depth (without_branch (tree_at l.pool.trees l.fn.list) l.fn.k) ≡ max l.depth (tree.depth (without_branch (tree_at l.pool.trees l.at) l.left));
  same : l.left ≡ l.fn.k → tree_at l.pool.trees l.at ≡ tree_at l.pool.trees l.fn.list;
}

abbrev pub decreases-items : goal.decreases-items
decreases-items l = above l.at
