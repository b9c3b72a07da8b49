use Rattle.std.proofs.Common.{◌≡◌, Some, length}
use Rattle.cv_pool.specs.Nodes.{ChildBelow}
use Rattle.cv_syntax.specs.PoolTrees.{tree_at}
use Rattle.cv_syntax.specs.Walks.{above}
use Rattle.cv_rule_codef.specs.Lists.{has_cell}
use Rattle.cv_rule_codef.proofs.lists.has_cell.Given as goal

abbrev pub invariant-cells : goal.invariant-cells
invariant-cells l = record {
  live : ChildBelow (length l.pool.trees) l.at;
  same : has_cell (tree_at l.pool.trees (Some l.cell)) (tree_at l.pool.trees l.at) ≡ has_cell (tree_at l.pool.trees (Some l.fn.cell)) (tree_at l.pool.trees l.fn.list);
}

abbrev pub decreases-cells : goal.decreases-cells
decreases-cells l = above l.at
