use Rattle.std.proofs.Common.{◌≤◌, ◌++◌, length}
use Rattle.cv_pool.specs.Nodes.{ChildBelow}
use Rattle.cv_syntax.specs.PoolTrees.{tree_at}
use Rattle.cv_syntax.specs.Walks.{above}
use Rattle.cv_syntax.specs.Postorder.{postorder}
use Rattle.cv_syntax.proofs.listing.Lists.{Listed}
use Rattle.cv_edit_changes.specs.unletting.Assigned.{names_above}
use Rattle.cv_edit_changes.specs.unletting.Putting.{put_in}
use Rattle.cv_edit_changes.proofs.unletting.putting.+list_put.Given as goal

abbrev pub decreases-list_put : goal.decreases-list_put
decreases-list_put l = above l.start

abbrev pub decreases-chain : goal.decreases-chain
decreases-chain l = above l.at

abbrev pub invariant-chain : goal.invariant-chain
invariant-chain l = record {
  below : above l.at ≤ above l.fn.start;
  live : ChildBelow (length l.pool.trees) l.at;
  listed : Listed l.makes.items (postorder (put_in l.x (names_above l.pool.trees l.directory l.x) (tree_at l.pool.trees l.term) (tree_at l.pool.trees l.at))) l.heads.items (l.fn.makes.items ++ postorder (put_in l.x (names_above l.pool.trees l.directory l.x) (tree_at l.pool.trees l.term) (tree_at l.pool.trees l.fn.start)));
}
