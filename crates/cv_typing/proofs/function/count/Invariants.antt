use Rattle.std.proofs.Common.{◌≡◌, ◌≤◌, ◌+◌, ◌^◌, length}
use Rattle.cv_pool.specs.Nodes.{ChildBelow}
use Rattle.cv_syntax.specs.PoolTrees.{tree_at}
use Rattle.cv_syntax.specs.Walks.{above}
use Rattle.cv_syntax_trees.specs.sites.Counting as counting
use Rattle.cv_typing.proofs.function.count.Given as goal

abbrev pub invariant-list : goal.invariant-list
invariant-list l = record {
  live : ChildBelow (length l.pool.trees) l.at;
  sum : l.n + counting.count (tree_at l.pool.trees l.at) ≡ counting.count (tree_at l.pool.trees l.fn.list);
  bound : l.n + above l.at ≤ 2 ^ 32;
}

abbrev pub decreases-list : goal.decreases-list
decreases-list l = above l.at
