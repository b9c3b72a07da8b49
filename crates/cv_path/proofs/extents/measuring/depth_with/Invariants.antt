use Rattle.std.proofs.Common.{◌≡◌, ◌+◌, ◌≤◌, max, Some}
use Rattle.cv_pool.specs.Nodes.{ChildBelow}
use Rattle.cv_syntax_trees.specs.Tree as tree
use Rattle.cv_syntax_trees.specs.Tree.{Tree}
use Rattle.cv_syntax.specs.PoolTrees.{tree_at}
use Rattle.cv_syntax.specs.Walks.{above}
use Rattle.cv_meaning.specs.Replaced.{replaced}
use Rattle.cv_path.proofs.extents.measuring.depth_with.Given as goal

abbrev pub invariant-down : goal.invariant-down
invariant-down l = record {
  live : ChildBelow (l.fn.root.0 + 1) l.at;
  within : l.above + tree.size (tree_at l.pool.trees l.at) ≤ tree.size (tree_at l.pool.trees (Some l.fn.root));
  deepest : (t : Tree) → tree.depth t ≡ l.fn.deep → max l.beside (l.above + tree.depth (replaced (tree_at l.pool.trees l.at) l.left t)) ≡ tree.depth (replaced (tree_at l.pool.trees (Some l.fn.root)) l.fn.place t);
}

abbrev pub decreases-down : goal.decreases-down
decreases-down l = above l.at
