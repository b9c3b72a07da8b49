use Rattle.std.proofs.Common.{◌≡◌, length}
use Rattle.cv_pool.specs.Nodes.{ChildBelow}
use Rattle.cv_syntax.specs.PoolTrees.{tree_at}
use Rattle.cv_syntax.specs.Walks.{above}
use Rattle.cv_steps.specs.Unletting.{has_cell_of}
use Rattle.cv_rule.proofs.listing.has_cell_of.Given as goal

abbrev pub decreases-cells : goal.decreases-cells
decreases-cells l = above l.at

abbrev pub invariant-cells : goal.invariant-cells
invariant-cells l = record {
  live : ChildBelow (length l.pool.trees) l.at;
  rest : has_cell_of l.x (tree_at l.pool.trees l.at) ≡ has_cell_of l.x (tree_at l.pool.trees l.fn.list);
}
