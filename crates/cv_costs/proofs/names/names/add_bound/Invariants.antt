use Rattle.std.proofs.Common.{◌≡◌, ◌||◌, ℕ, length}
use Rattle.cv_pool.specs.Nodes.{ChildBelow}
use Rattle.cv_syntax.specs.NameSets.{is_in}
use Rattle.cv_syntax.specs.PoolTrees.{tree_at}
use Rattle.cv_syntax.specs.Walks.{above}
use Rattle.cv_scope_rules.specs.Made.{is_bound}
use Rattle.cv_costs.proofs.names.names.add_bound.Given as goal

abbrev pub invariant-binders : goal.invariant-binders
invariant-binders l = record {
  live : ChildBelow (length l.pool.trees) l.at;
  same : (y : ℕ) → (is_bound (tree_at l.pool.trees l.at) y || is_in l.names y) ≡ (is_bound (tree_at l.pool.trees l.fn.binders) y || is_in l.fn.names y);
}

abbrev pub decreases-binders : goal.decreases-binders
decreases-binders l = above l.at
