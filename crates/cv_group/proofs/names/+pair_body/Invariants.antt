use Rattle.std.proofs.Common.{◌≡◌, ◌≤◌, ℕ, ◌||◌, ◌&&◌, length}
use Rattle.cv_pool.specs.Nodes.{ChildBelow}
use Rattle.cv_syntax.specs.PoolTrees.{tree_at}
use Rattle.cv_syntax.specs.Walks.{above}
use Rattle.std.specs.Prelude.{◌==◌}
use Rattle.cv_group_rules.specs.Rules as rule
use Rattle.cv_group.specs.bodies.Levels.{is_paired}
use Rattle.cv_group.proofs.names.+pair_body.Given as goal

abbrev pub decreases-pair_body : goal.decreases-pair_body
decreases-pair_body l = above l.body

abbrev pub invariant-body : goal.invariant-body
invariant-body l = record {
  live : ChildBelow (length l.pool.trees) l.at;
  same : (n x : ℕ) → (is_paired l.names n x || ((l.bound == n) && rule.defines (tree_at l.pool.trees l.at) x)) ≡ (is_paired l.fn.names n x || ((l.bound == n) && rule.defines (tree_at l.pool.trees l.fn.body) x));
  less : above l.at ≤ above l.fn.body;
}

abbrev pub decreases-body : goal.decreases-body
decreases-body l = above l.at
