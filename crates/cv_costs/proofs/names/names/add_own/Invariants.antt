use Rattle.std.proofs.Common.{◌≡◌, ◌||◌, ℕ, length}
use Rattle.cv_pool.specs.Nodes.{ChildBelow}
use Rattle.cv_syntax.specs.NameSets.{is_in}
use Rattle.cv_syntax.specs.PoolTrees.{tree_at}
use Rattle.cv_syntax.specs.Walks.{above}
use Rattle.cv_scope_rules.specs.Made.{is_own_of}
use Rattle.cv_costs.proofs.names.names.add_own.Given as goal

abbrev pub invariant-branches : goal.invariant-branches
invariant-branches l = record {
  live : ChildBelow (length l.pool.trees) l.at;
  same : (y : ℕ) → (is_own_of (tree_at l.pool.trees l.at) y || is_in l.names y) ≡ (is_own_of (tree_at l.pool.trees l.fn.branches) y || is_in l.fn.names y);
}

abbrev pub decreases-branches : goal.decreases-branches
decreases-branches l = above l.at
