use Rattle.std.proofs.Common.{◌≡◌, length}
use Rattle.cv_pool.specs.Nodes.{ChildBelow}
use Rattle.cv_syntax.specs.PoolTrees.{tree_at}
use Rattle.cv_syntax.specs.Walks.{above}
use Rattle.cv_edit_names.specs.Cells.{cells_in}
use Rattle.cv_rule_array_names.specs.Mixed.{has_other}
use Rattle.cv_rule_array_names.proofs.mixed.has_other.Given as goal

abbrev pub invariant-cells : goal.invariant-cells
invariant-cells l = record {
  live : ChildBelow (length l.pool.trees) l.at;
  same : has_other (tree_at l.pool.trees l.cell) (cells_in l.x (tree_at l.pool.trees l.at)) ≡ has_other (tree_at l.pool.trees l.fn.cell) (cells_in l.x (tree_at l.pool.trees l.fn.list));
}

abbrev pub decreases-cells : goal.decreases-cells
decreases-cells l = above l.at
