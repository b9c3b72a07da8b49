use Rattle.std.proofs.Common.{◌≡◌, ◌≤◌, length, drop}
use Rattle.cv_pool.specs.Nodes.{ChildBelow}
use Rattle.cv_syntax.specs.PoolTrees.{tree_at}
use Rattle.cv_syntax.specs.Walks.{above}
use Rattle.cv_scope.specs.Seen.{current}
use Rattle.cv_scope.specs.Held.{and_more}
use Rattle.cv_scope.proofs.terms.current.Given as goal

abbrev pub invariant-list : goal.invariant-list
invariant-list l = record {
  live : ChildBelow (length l.pool.trees) l.at;
  few : l.count ≤ length l.replications;
  same : and_more l.count (current (drop l.count l.replications) (tree_at l.pool.trees l.at)) ≡ current l.replications (tree_at l.pool.trees l.fn.list);
}

abbrev pub decreases-list : goal.decreases-list
decreases-list l = above l.at
