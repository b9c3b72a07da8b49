use Rattle.std.proofs.Common.{◌≡◌, length}
use Rattle.cv_pool.specs.Nodes.{ChildBelow}
use Rattle.cv_syntax.specs.PoolTrees.{tree_at}
use Rattle.cv_syntax.specs.Walks.{above}
use Rattle.cv_meaning.specs.contexts.Made as made
use Rattle.cv_group.proofs.bodies.cells.has_cell_at.Given as goal

abbrev pub invariant-cells : goal.invariant-cells
invariant-cells l = record {
  live : ChildBelow (length l.pool.trees) l.at;
  same : made.has_cell_at l.u (tree_at l.pool.trees l.at) ≡ made.has_cell_at l.u (tree_at l.pool.trees l.fn.cells);
}

abbrev pub decreases-cells : goal.decreases-cells
decreases-cells l = above l.at
