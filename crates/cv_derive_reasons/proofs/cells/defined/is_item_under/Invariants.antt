use Rattle.std.proofs.Common.{◌≡◌, length}
use Rattle.cv_pool.specs.Nodes.{ChildBelow}
use Rattle.cv_syntax.specs.PoolTrees.{tree_at}
use Rattle.cv_syntax.specs.Walks.{above}
use Rattle.cv_scope_rules.specs.Context.{items}
use Rattle.cv_derive_reasons.specs.cells.Cells.{is_among_under}
use Rattle.cv_derive_reasons.proofs.cells.defined.is_item_under.Given as goal

abbrev pub invariant-items : goal.invariant-items
invariant-items l = record {
  live : ChildBelow (length l.pool.trees) l.at;
  same : is_among_under l.names (tree_at l.pool.trees l.terms) (tree_at l.pool.trees l.cell) (items (tree_at l.pool.trees l.at)) ≡ is_among_under l.names (tree_at l.pool.trees l.terms) (tree_at l.pool.trees l.cell) (items (tree_at l.pool.trees l.fn.list));
}

abbrev pub decreases-items : goal.decreases-items
decreases-items l = above l.at
