use Rattle.std.proofs.Common.{◌≤◌, ◌++◌, length}
use Rattle.cv_pool.specs.Nodes.{ChildBelow}
use Rattle.cv_syntax.specs.PoolTrees.{tree_at}
use Rattle.cv_syntax.specs.Walks.{above}
use Rattle.cv_syntax.specs.Postorder.{postorder}
use Rattle.cv_syntax.proofs.listing.Lists.{Listed}
use Rattle.cv_scene.specs.lines.Given.{with_given}
use Rattle.cv_edit_changes.specs.unletting.Assigned.{names_above}
use Rattle.cv_edit_changes.proofs.unletting.under.+list_under.Given as goal

abbrev pub decreases-list_under : goal.decreases-list_under
decreases-list_under l = above l.start

abbrev pub decreases-chain : goal.decreases-chain
decreases-chain l = above l.at

abbrev pub invariant-chain : goal.invariant-chain
invariant-chain l = record {
  below : above l.at ≤ above l.fn.start;
  live : ChildBelow (length l.pool.trees) l.at;
  listed : Listed l.makes.items (postorder (with_given (names_above l.pool.trees l.directory l.x) (tree_at l.pool.trees l.terms) (tree_at l.pool.trees l.at))) l.heads.items (l.fn.makes.items ++ postorder (with_given (names_above l.pool.trees l.directory l.x) (tree_at l.pool.trees l.terms) (tree_at l.pool.trees l.fn.start)));
}
