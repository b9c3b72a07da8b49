use Rattle.std.proofs.Common.{◌≡◌, ◌+◌, ◌≤◌, max, length}
use Rattle.cv_pool.specs.Nodes.{ChildBelow}
use Rattle.cv_syntax_trees.specs.Tree as tree
use Rattle.cv_syntax.specs.PoolTrees.{tree_at}
use Rattle.cv_syntax.specs.Walks.{above}
use Rattle.cv_steps.specs.Changes.{without, only}
use Rattle.cv_edit_places.proofs.dropping.+depth_without.Given as goal

abbrev pub decreases-depth_without : goal.decreases-depth_without
decreases-depth_without l = above l.start

abbrev pub decreases-chain : goal.decreases-chain
decreases-chain l = above l.at

abbrev pub invariant-chain : goal.invariant-chain
invariant-chain l = record {
  below : above l.at ≤ above l.fn.start;
  live : ChildBelow (length l.pool.trees) l.at;
  small : tree.size (tree_at l.pool.trees l.at) ≤ tree.size (tree_at l.pool.trees l.fn.start);
  deepest : max l.deepest (l.above + tree.depth (without (only l.x) (tree_at l.pool.trees l.at))) ≡ tree.depth (without (only l.x) (tree_at l.pool.trees l.fn.start));
  over : l.above ≤ l.deepest;
}
