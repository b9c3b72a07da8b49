use Rattle.std.proofs.Common.{◌≡◌, ◌≤◌, length}
use Rattle.cv_pool.specs.Nodes.{ChildBelow}
use Rattle.cv_syntax.specs.PoolTrees.{tree_at}
use Rattle.cv_syntax.specs.Walks.{above}
use Rattle.cv_steps.specs.Unletting.{is_listed}
use Rattle.cv_rule.proofs.listing.+is_listed.Given as goal

abbrev pub decreases-is_listed : goal.decreases-is_listed
decreases-is_listed l = above l.start

abbrev pub decreases-tree : goal.decreases-tree
decreases-tree l = above l.at

abbrev pub invariant-tree : goal.invariant-tree
invariant-tree l = record {
  below : above l.at ≤ above l.fn.start;
  live : ChildBelow (length l.pool.trees) l.at;
  rest : is_listed l.x (tree_at l.pool.trees l.at) ≡ is_listed l.x (tree_at l.pool.trees l.fn.start);
}
