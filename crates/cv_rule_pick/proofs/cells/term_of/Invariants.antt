use Rattle.std.proofs.Common.{◌≡◌, length, Some}
use Rattle.cv_pool.specs.Nodes.{ChildBelow}
use Rattle.cv_syntax.specs.PoolTrees.{tree_at}
use Rattle.cv_syntax.specs.Walks.{above}
use Rattle.cv_scope_rules.specs.Context.{cells_of}
use Rattle.cv_rule_pick.specs.Picking.{term_of}
use Rattle.cv_rule_pick.proofs.cells.term_of.Given as goal

abbrev pub invariant-binders : goal.invariant-binders
invariant-binders l = record {
  live : ChildBelow (length l.pool.trees) l.at;
  left : ChildBelow (length l.pool.trees) l.left;
  same : term_of (cells_of l.replications (tree_at l.pool.trees l.at)) (tree_at l.pool.trees l.left) (tree_at l.pool.trees (Some l.tree))
      ≡ term_of (cells_of l.replications (tree_at l.pool.trees l.fn.binders)) (tree_at l.pool.trees l.fn.terms) (tree_at l.pool.trees (Some l.fn.tree));
}

abbrev pub decreases-binders : goal.decreases-binders
decreases-binders l = above l.at
