use Rattle.std.proofs.Common.{◌≡◌, ◌<◌, ◌+◌, length}
use Rattle.cv_pool.specs.Nodes.{ChildBelow}
use Rattle.cv_syntax.specs.PoolTrees.{tree_at}
use Rattle.cv_syntax.specs.Walks.{above}
use Rattle.cv_syntax_trees.specs.sites.Counting.{count}
use Rattle.cv_scope.proofs.rules.has_few.Given as goal

abbrev pub invariant-list : goal.invariant-list
invariant-list l = record {
  live : ChildBelow (length l.pool.trees) l.at;
  few : l.items < 9;
  sum : count (tree_at l.pool.trees l.at) + l.items ≡ count (tree_at l.pool.trees l.fn.list);
}

abbrev pub decreases-list : goal.decreases-list
decreases-list l = above l.at
