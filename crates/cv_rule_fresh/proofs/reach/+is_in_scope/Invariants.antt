use Rattle.std.proofs.Common.{◌≡◌, ◌≤◌, Some, length}
use Rattle.cv_pool.specs.Nodes.{ChildBelow}
use Rattle.cv_syntax.specs.PoolTrees.{tree_at}
use Rattle.cv_syntax.specs.Walks.{above}
use Rattle.cv_scope.specs.Held.{names_held}
use Rattle.cv_scope_rules.specs.Context.{Context, known_at}
use Rattle.cv_costs.specs.names.Reach.{is_in_scope}
use Rattle.cv_rule_fresh.proofs.reach.+is_in_scope.Given as goal

abbrev pub decreases-is_in_scope : goal.decreases-is_in_scope
decreases-is_in_scope l = above l.term

abbrev pub decreases-chain : goal.decreases-chain
decreases-chain l = above l.at

abbrev pub invariant-chain : goal.invariant-chain
invariant-chain l = record {
  below : above l.at ≤ above l.fn.term;
  live : ChildBelow (length l.pool.trees) l.at;
  same : (Γ : Context) → known_at (tree_at l.pool.trees (Some l.game)) l.place ≡ Some Γ → Γ.replications ≡ l.replications → is_in_scope (names_held l.names) Γ (tree_at l.pool.trees l.at) ≡ is_in_scope (names_held l.names) Γ (tree_at l.pool.trees l.fn.term);
}
