use Rattle.std.proofs.Common.{◌≡◌, length}
use Rattle.cv_pool.specs.Nodes.{ChildBelow}
use Rattle.cv_syntax.specs.PoolTrees.{tree_at}
use Rattle.cv_syntax.specs.Walks.{above as rank}
use Rattle.cv_syntax_trees.specs.sites.Sites.{binder_sort}
use Rattle.cv_typing.specs.Tables.{above_of, restored}
use Rattle.cv_scope_rules.specs.typing.Wants.{all_bound}
use Rattle.cv_typing.proofs.above.bind_all.Given as goal

abbrev pub invariant-list : goal.invariant-list
invariant-list l = record {
  live : ChildBelow (length l.pool.trees) l.at;
  names : all_bound l.precedence (above_of l.above) (binder_sort l.are_indices) (tree_at l.pool.trees l.at) ≡ all_bound l.precedence (above_of l.fn.above) (binder_sort l.are_indices) (tree_at l.pool.trees l.fn.list);
  back : restored (above_of l.above) l.bound.items ≡ restored (above_of l.fn.above) l.fn.bound.items;
}

abbrev pub decreases-list : goal.decreases-list
decreases-list l = rank l.at
