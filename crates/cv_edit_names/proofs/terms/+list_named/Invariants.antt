use Rattle.std.proofs.Common.{◌≤◌, ◌++◌, length}
use Rattle.cv_pool.specs.Nodes.{ChildBelow}
use Rattle.cv_syntax.specs.PoolTrees.{tree_at}
use Rattle.cv_syntax.specs.Walks.{above}
use Rattle.cv_syntax.specs.Postorder.{postorder}
use Rattle.cv_syntax.proofs.listing.Lists.{Listed}
use Rattle.cv_edit_names.specs.Cells.{with_names}
use Rattle.cv_edit_names.specs.Kept.{around_in}
use Rattle.cv_edit_names.specs.Splitting.{names_known}
use Rattle.cv_edit_names.proofs.terms.+list_named.Given as goal

abbrev pub decreases-list_named : goal.decreases-list_named
decreases-list_named l = above l.start

abbrev pub decreases-chain : goal.decreases-chain
decreases-chain l = above l.at

abbrev pub invariant-chain : goal.invariant-chain
invariant-chain l = record {
  below : above l.at ≤ above l.fn.start;
  live : ChildBelow (length l.pool.trees) l.at;
  listed : Listed l.makes.items (postorder (with_names (names_known (around_in l.pool.trees l.x l.around)) (tree_at l.pool.trees l.at))) l.heads.items (l.fn.makes.items ++ postorder (with_names (names_known (around_in l.pool.trees l.x l.around)) (tree_at l.pool.trees l.fn.start)));
}
