use Rattle.std.proofs.Common.{◌≡◌, ◌≤◌, Some, length}
use Rattle.cv_pool.specs.Nodes.{ChildBelow}
use Rattle.cv_syntax.specs.PoolTrees.{tree_at}
use Rattle.cv_syntax.specs.Walks.{above}
use Rattle.cv_scope.specs.Held.{names_held}
use Rattle.cv_scope_rules.specs.Context.{Context, known_at}
use Rattle.cv_costs.specs.names.Reach.{is_in_scope}
use Rattle.cv_rule_pick.proofs.scope.+is_in_scope.Given as goal

abbrev pub decreases-is_in_scope : goal.decreases-is_in_scope
decreases-is_in_scope l = above l.term

abbrev pub invariant-term : goal.invariant-term
invariant-term l = record {
  live : ChildBelow (length l.pool.trees) l.at;
  less : above l.at ≤ above l.fn.term;
  same : (Γ : Context) → known_at (tree_at l.pool.trees (Some l.game)) l.place ≡ Some Γ → Γ.replications ≡ l.replications → is_in_scope (names_held l.names) Γ (tree_at l.pool.trees l.at) ≡ is_in_scope (names_held l.names) Γ (tree_at l.pool.trees l.fn.term);
}

abbrev pub decreases-term : goal.decreases-term
decreases-term l = above l.at
