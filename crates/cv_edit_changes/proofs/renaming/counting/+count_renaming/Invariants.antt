use Rattle.std.proofs.Common.{◌≡◌, ◌+◌, ◌≤◌, length}
use Rattle.cv_pool.specs.Nodes.{ChildBelow}
use Rattle.cv_syntax.specs.PoolTrees.{tree_at}
use Rattle.cv_syntax.specs.Walks.{above}
use Rattle.cv_syntax.specs.listing.Needs.{most_asked}
use Rattle.cv_edit_changes.specs.renaming.Needs.{need_renaming}
use Rattle.cv_edit_changes.proofs.renaming.Counted.{pending}
use Rattle.cv_edit_changes.proofs.renaming.counting.+count_renaming.Given as goal

abbrev pub decreases-count_renaming : goal.decreases-count_renaming
decreases-count_renaming l = above l.start

abbrev pub decreases-chain : goal.decreases-chain
decreases-chain l = above l.at

abbrev pub invariant-chain : goal.invariant-chain
invariant-chain l = record {
  below : above l.at ≤ above l.fn.start;
  fits : l.total ≤ 4294967295;
  live : ChildBelow (length l.pool.trees) l.at;
  total : most_asked (l.total + pending l.x l.passed (tree_at l.pool.trees l.at)) ≡ need_renaming l.x (tree_at l.pool.trees l.fn.start);
}
