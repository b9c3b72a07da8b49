use Rattle.std.proofs.Common.{◌≡◌, ◌+◌, ◌≤◌, Some}
use Rattle.cv_pool.specs.Nodes.{ChildBelow}
use Rattle.cv_syntax_trees.specs.Tree.{size}
use Rattle.cv_syntax.specs.PoolTrees.{tree_at}
use Rattle.cv_syntax.specs.Walks.{above}
use Rattle.cv_scope_rules.specs.Context.{Context, context_at, known_at}
use Rattle.cv_rule_fresh.specs.Looks.{Sees}
use Rattle.cv_rule_fresh.proofs.reach.is_known.Given as goal

abbrev pub invariant-down : goal.invariant-down
invariant-down l = record {
  live : ChildBelow (l.fn.game.0 + 1) l.at;
  within : size (tree_at l.pool.trees l.at) ≤ size (tree_at l.pool.trees (Some l.fn.game));
  context : Context;
  passed : context.replications ≡ l.passed.items;
  sees : Sees (tree_at l.pool.trees l.cell) context l.seen;
  same : context_at l.position context (tree_at l.pool.trees l.at) l.left ≡ known_at (tree_at l.pool.trees (Some l.fn.game)) l.fn.place;
}

abbrev pub decreases-down : goal.decreases-down
decreases-down l = above l.at
