use Rattle.std.proofs.Common.{◌≡◌, ◌+◌, ◌≤◌, Some, length}
use Rattle.cv_pool.specs.Nodes.{ChildBelow}
use Rattle.cv_syntax_trees.specs.Tree.{size}
use Rattle.cv_syntax.specs.PoolTrees.{tree_at}
use Rattle.cv_syntax.specs.Walks.{above}
use Rattle.cv_scope_rules.specs.Above.{standing_at, stands_at}
use Rattle.cv_scope_rules.specs.Context.{Context}
use Rattle.cv_derive_reasons.specs.cells.Cells.{is_among_under}
use Rattle.cv_derive.specs.Walks.{Knows}
use Rattle.cv_derive.proofs.defined.is_defined_under.Given as goal

abbrev pub invariant-down : goal.invariant-down
invariant-down l = record {
  live : ChildBelow (l.fn.game.root.0 + 1) l.walk.at;
  own : ChildBelow (length l.work.pool.trees) l.walk.own;
  within : l.walk.above + size (tree_at l.work.pool.trees l.walk.at) ≤ size (tree_at l.work.pool.trees (Some l.fn.game.root));
  context : Context;
  knows : Knows l.work.pool.trees context l.walk;
  same : standing_at l.walk.position context (tree_at l.work.pool.trees l.walk.at) l.walk.left ≡ stands_at (tree_at l.work.pool.trees (Some l.fn.game.root)) l.fn.place;
  found : (Δ : Context) → stands_at (tree_at l.work.pool.trees (Some l.fn.game.root)) l.fn.place ≡ Some Δ → l.walk.found ≡ is_among_under l.names (tree_at l.work.pool.trees l.terms) (tree_at l.work.pool.trees l.cell) context.cells;
}

abbrev pub decreases-down : goal.decreases-down
decreases-down l = above l.walk.at
