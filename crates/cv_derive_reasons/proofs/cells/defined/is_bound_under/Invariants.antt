use Rattle.std.proofs.Common.{◌≡◌, length}
use Rattle.cv_pool.specs.Nodes.{ChildBelow}
use Rattle.cv_syntax.specs.PoolTrees.{tree_at}
use Rattle.cv_syntax.specs.Walks.{above}
use Rattle.cv_scope_rules.specs.Context.{cells_of}
use Rattle.cv_derive_reasons.specs.cells.Cells.{is_among_under}
use Rattle.cv_derive_reasons.proofs.cells.defined.is_bound_under.Given as goal

abbrev pub invariant-binders : goal.invariant-binders
invariant-binders l = record {
  live : ChildBelow (length l.pool.trees) l.at;
  same : is_among_under l.names (tree_at l.pool.trees l.terms) (tree_at l.pool.trees l.cell) (cells_of l.replications (tree_at l.pool.trees l.at)) ≡ is_among_under l.names (tree_at l.pool.trees l.terms) (tree_at l.pool.trees l.cell) (cells_of l.replications (tree_at l.pool.trees l.fn.list));
}

abbrev pub decreases-binders : goal.decreases-binders
decreases-binders l = above l.at
