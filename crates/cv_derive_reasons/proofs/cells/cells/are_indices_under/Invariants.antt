use Rattle.std.proofs.Common.{◌≡◌, ◌≤◌, length, drop}
use Rattle.cv_pool.specs.Nodes.{ChildBelow}
use Rattle.cv_syntax.specs.PoolTrees.{tree_at}
use Rattle.cv_syntax.specs.Walks.{above}
use Rattle.cv_derive_reasons.specs.cells.Cells.{are_indices_under}
use Rattle.cv_derive_reasons.proofs.cells.cells.are_indices_under.Given as goal

abbrev pub invariant-list : goal.invariant-list
invariant-list l = record {
  live : ChildBelow (length l.pool.trees) l.at;
  few : l.count ≤ length l.replications;
  same : are_indices_under l.names (tree_at l.pool.trees l.terms) (drop l.count l.replications) (tree_at l.pool.trees l.at) ≡ are_indices_under l.names (tree_at l.pool.trees l.terms) l.replications (tree_at l.pool.trees l.fn.list);
}

abbrev pub decreases-list : goal.decreases-list
decreases-list l = above l.at
