use Rattle.std.proofs.Common.{◌≡◌, length, map}
use Rattle.cv_pool.specs.Nodes.{ChildBelow}
use Rattle.cv_syntax.specs.PoolTrees.{tree_at}
use Rattle.cv_syntax.specs.Walks.{above}
use Rattle.cv_group_rules.specs.Rules as rule
use Rattle.cv_group.specs.bodies.Levels.{around_of, level_of}
use Rattle.cv_group.proofs.bodies.cells.are_cells.Given as goal

abbrev pub invariant-cells : goal.invariant-cells
invariant-cells l = record {
  live : ChildBelow (length l.pool.trees) l.at;
  same : rule.are_cells (around_of l.around) (map level_of l.levels) (tree_at l.pool.trees l.at) ≡ rule.are_cells (around_of l.around) (map level_of l.levels) (tree_at l.pool.trees l.fn.cells);
}

abbrev pub decreases-cells : goal.decreases-cells
decreases-cells l = above l.at
