use Rattle.std.proofs.Common.{◌≡◌, ◌+◌, ◌*◌, ◌≤◌, ℕ, length}
use Rattle.cv_pool.specs.Nodes.{ChildBelow}
use Rattle.cv_syntax_trees.specs.Tree.{size}
use Rattle.cv_syntax.specs.PoolTrees.{tree_at}
use Rattle.cv_syntax.specs.Walks.{above}
use Rattle.cv_syntax.specs.limits.Limits.{told}
use Rattle.cv_edit_names.specs.Kept.{cells_looked_for}
use Rattle.cv_edit_names.specs.Sizes.{sizes_in}
use Rattle.cv_edit_names.proofs.measuring.+size_split.Given as goal

abbrev pub decreases-size_split : goal.decreases-size_split
decreases-size_split l = 4 * above l.start

abbrev pub decreases-size_first : goal.decreases-size_first
decreases-size_first l = 4 * above l.node.first + 1

abbrev pub decreases-size_branches : goal.decreases-size_branches
decreases-size_branches l = 4 * above l.start

abbrev pub decreases-size_copies : goal.decreases-size_copies
decreases-size_copies l = 4 * above l.branch.now.body + 2

abbrev pub decreases-size_branch : goal.decreases-size_branch
decreases-size_branch l = 4 * above l.branch.now.body + 1

abbrev pub decreases-size_branches-branches : goal.decreases-size_branches-branches
decreases-size_branches-branches l = above l.at

abbrev pub invariant-size_branches-branches : goal.invariant-size_branches-branches
invariant-size_branches-branches l = record {
  below : above l.at ≤ above l.fn.start;
  live : ChildBelow (length l.pool.trees) l.at;
  fits : size (tree_at l.pool.trees l.at) ≤ size (tree_at l.pool.trees l.fn.start);
  total : (k : ℕ) → l.count.names ≡ told k → told (l.total + sizes_in l.count.variable k (cells_looked_for l.pool.trees l.looked_for) (tree_at l.pool.trees l.at)) ≡ told (sizes_in l.count.variable k (cells_looked_for l.pool.trees l.looked_for) (tree_at l.pool.trees l.fn.start));
}
