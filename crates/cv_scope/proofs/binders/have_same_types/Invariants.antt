use Rattle.std.proofs.Common.{◌≡◌, length}
use Rattle.cv_pool.specs.Nodes.{ChildBelow}
use Rattle.cv_syntax.specs.PoolTrees.{tree_at}
use Rattle.cv_syntax.specs.Walks.{above}
use Rattle.cv_scope_rules.specs.Sites.{bound_types}
use Rattle.cv_scope_rules.specs.Tests.{same_numbers}
use Rattle.cv_scope.proofs.binders.have_same_types.Given as goal

abbrev pub invariant-binders : goal.invariant-binders
invariant-binders l = record {
  left : ChildBelow (length l.pool.trees) l.left_at;
  right : ChildBelow (length l.pool.trees) l.right_at;
  same : same_numbers (bound_types (tree_at l.pool.trees l.left_at)) (bound_types (tree_at l.pool.trees l.right_at)) ≡ same_numbers (bound_types (tree_at l.pool.trees l.fn.left)) (bound_types (tree_at l.pool.trees l.fn.right));
}

abbrev pub decreases-binders : goal.decreases-binders
decreases-binders l = above l.left_at
