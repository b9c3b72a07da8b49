use Rattle.std.proofs.Common.{◌≡◌, ◌+◌, ◌≤◌, length}
use Rattle.cv_pool.specs.Nodes.{ChildBelow}
use Rattle.cv_syntax_trees.specs.Tree as tree
use Rattle.cv_syntax.specs.PoolTrees.{tree_at}
use Rattle.cv_syntax.specs.Walks.{above}
use Rattle.cv_edit_changes.specs.unletting.Assigned.{names_above}
use Rattle.cv_edit_changes.specs.unletting.Putting.{put_in}
use Rattle.cv_edit_changes.proofs.unletting.putting.+size_put.Given as goal

abbrev pub decreases-size_put : goal.decreases-size_put
decreases-size_put l = above l.start

abbrev pub decreases-chain : goal.decreases-chain
decreases-chain l = above l.at

abbrev pub invariant-chain : goal.invariant-chain
invariant-chain l = record {
  below : above l.at ≤ above l.fn.start;
  live : ChildBelow (length l.pool.trees) l.at;
  total : l.total + tree.size (put_in l.x (names_above l.pool.trees l.directory l.x) (tree_at l.pool.trees l.term) (tree_at l.pool.trees l.at)) ≡ tree.size (put_in l.x (names_above l.pool.trees l.directory l.x) (tree_at l.pool.trees l.term) (tree_at l.pool.trees l.fn.start));
}
