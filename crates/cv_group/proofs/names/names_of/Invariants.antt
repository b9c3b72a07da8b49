use Rattle.std.proofs.Common.{◌≡◌, ℕ, ◌||◌, length}
use Rattle.cv_pool.specs.Nodes.{ChildBelow}
use Rattle.cv_syntax.specs.PoolTrees.{tree_at}
use Rattle.cv_syntax.specs.Walks.{above}
use Rattle.cv_group_rules.specs.Rules as rule
use Rattle.cv_group.specs.bodies.Levels.{is_paired}
use Rattle.cv_group.proofs.names.names_of.Given as goal

abbrev pub invariant-list : goal.invariant-list
invariant-list l = record {
  live : ChildBelow (length l.pool.trees) l.at;
  same : (n x : ℕ) → (is_paired l.names n x || rule.names_of (tree_at l.pool.trees l.at) n x) ≡ rule.names_of (tree_at l.pool.trees l.fn.functions) n x;
}

abbrev pub decreases-list : goal.decreases-list
decreases-list l = above l.at
