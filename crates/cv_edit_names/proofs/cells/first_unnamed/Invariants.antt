use Rattle.std.proofs.Common.{◌≡◌, length}
use Rattle.cv_pool.specs.Nodes.{ChildBelow}
use Rattle.cv_syntax.specs.PoolTrees.{tree_at}
use Rattle.cv_syntax.specs.Walks.{above}
use Rattle.cv_edit_names.specs.Cells.{cells_in, first_unnamed}
use Rattle.cv_edit_names.specs.Kept.{looked_in}
use Rattle.cv_edit_names.proofs.cells.first_unnamed.Given as goal

abbrev pub invariant-cells : goal.invariant-cells
invariant-cells l = record {
  live : ChildBelow (length l.pool.trees) l.at;
  same : first_unnamed (looked_in l.pool.trees l.looked_for) (cells_in l.x (tree_at l.pool.trees l.at)) ≡ first_unnamed (looked_in l.pool.trees l.looked_for) (cells_in l.x (tree_at l.pool.trees l.fn.cells));
}

abbrev pub decreases-cells : goal.decreases-cells
decreases-cells l = above l.at
