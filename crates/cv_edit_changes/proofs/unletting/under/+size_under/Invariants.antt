use Rattle.std.proofs.Common.{◌≡◌, ◌+◌, ◌≤◌, length}
use Rattle.cv_pool.specs.Nodes.{ChildBelow}
use Rattle.cv_syntax_trees.specs.Tree as tree
use Rattle.cv_syntax.specs.PoolTrees.{tree_at}
use Rattle.cv_syntax.specs.Walks.{above}
use Rattle.cv_scene.specs.lines.Given.{with_given}
use Rattle.cv_edit_changes.specs.unletting.Assigned.{names_above}
use Rattle.cv_edit_changes.proofs.unletting.under.+size_under.Given as goal

abbrev pub decreases-size_under : goal.decreases-size_under
decreases-size_under l = above l.start

abbrev pub decreases-chain : goal.decreases-chain
decreases-chain l = above l.at

abbrev pub invariant-chain : goal.invariant-chain
invariant-chain l = record {
  below : above l.at ≤ above l.fn.start;
  live : ChildBelow (length l.pool.trees) l.at;
  total : l.total + tree.size (with_given (names_above l.pool.trees l.directory l.x) (tree_at l.pool.trees l.terms) (tree_at l.pool.trees l.at)) ≡ tree.size (with_given (names_above l.pool.trees l.directory l.x) (tree_at l.pool.trees l.terms) (tree_at l.pool.trees l.fn.start));
}
