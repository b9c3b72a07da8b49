use Rattle.std.proofs.Common.{◌≡◌, ◌≤◌, length, map, take}
use Rattle.cv_pool.specs.Nodes.{ChildBelow}
use Rattle.cv_syntax.specs.PoolTrees.{tree_at}
use Rattle.cv_syntax.specs.Walks.{above}
use Rattle.cv_group_rules.specs.Rules as rule
use Rattle.cv_group.specs.bodies.Levels.{around_of, level_of}
use Rattle.cv_group.proofs.bodies.bodies.+is_bound.Given as goal

abbrev pub decreases-is_bound : goal.decreases-is_bound
decreases-is_bound l = above l.part

abbrev pub invariant-chain : goal.invariant-chain
invariant-chain l = record {
  live : ChildBelow (length l.pool.trees) l.at;
  same : rule.is_bound (around_of l.around) (map level_of l.levels.items) (tree_at l.pool.trees l.at) ≡ rule.is_bound (around_of l.around) (map level_of l.fn.levels.items) (tree_at l.pool.trees l.fn.part);
  kept : take l.kept l.levels.items ≡ l.fn.levels.items;
  few : l.kept ≤ length l.levels.items;
  less : above l.at ≤ above l.fn.part;
}

abbrev pub decreases-chain : goal.decreases-chain
decreases-chain l = above l.at
