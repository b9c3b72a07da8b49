use Rattle.std.proofs.Common.{◌≡◌, length}
use Rattle.cv_pool.specs.Nodes.{ChildBelow}
use Rattle.cv_syntax.specs.PoolTrees.{tree_at}
use Rattle.cv_syntax.specs.Walks.{above}
use Rattle.cv_syntax_trees.specs.sites.Sites.{binder_sort}
use Rattle.cv_typing.specs.Tables.{arrays_of}
use Rattle.cv_scope_rules.specs.typing.Typing.{binders_differ}
use Rattle.cv_typing.proofs.faults.binders_differ.Given as goal

abbrev pub invariant-list : goal.invariant-list
invariant-list l = record {
  live : ChildBelow (length l.pool.trees) l.at;
  same : binders_differ (arrays_of l.arrays) (binder_sort l.are_indices) (tree_at l.pool.trees l.at) ≡ binders_differ (arrays_of l.arrays) (binder_sort l.are_indices) (tree_at l.pool.trees l.fn.list);
}

abbrev pub decreases-list : goal.decreases-list
decreases-list l = above l.at
