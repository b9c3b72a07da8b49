use Rattle.std.proofs.Common.{◌≡◌, ℕ, ◌||◌, length}
use Rattle.cv_pool.specs.Nodes.{ChildBelow}
use Rattle.cv_syntax.specs.PoolTrees.{tree_at}
use Rattle.cv_syntax.specs.Walks.{above}
use Rattle.cv_group_rules.specs.Rules as rule
use Rattle.cv_syntax.specs.NameSets.{is_in}
use Rattle.cv_group.specs.bodies.Levels.{is_paired}
use Rattle.cv_group.proofs.bodies.cells.found.Given as goal

abbrev pub invariant-cells : goal.invariant-cells
invariant-cells l = record {
  live : ChildBelow (length l.pool.trees) l.at;
  same : (v u : ℕ) → (is_paired l.reads v u || rule.has_read (tree_at l.pool.trees l.at) v u) ≡ rule.has_read (tree_at l.pool.trees l.fn.cells) v u;
  named : (x : ℕ) → (is_in l.names x || rule.has_name (tree_at l.pool.trees l.at) x) ≡ rule.has_name (tree_at l.pool.trees l.fn.cells) x;
}

abbrev pub decreases-cells : goal.decreases-cells
decreases-cells l = above l.at
