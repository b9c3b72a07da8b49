use Rattle.std.proofs.Common.{◌≡◌, length}
use Rattle.std.specs.List.{list_any}
use Rattle.cv_pool.specs.Nodes.{ChildBelow}
use Rattle.cv_syntax_trees.specs.Tree.{same_tree}
use Rattle.cv_syntax.specs.PoolTrees.{tree_at}
use Rattle.cv_syntax.specs.Walks.{above}
use Rattle.cv_scope_rules.specs.Context.{cells_of}
use Rattle.cv_rule_fresh.proofs.reach.is_bound.Given as goal

abbrev pub invariant-binders : goal.invariant-binders
invariant-binders l = record {
  live : ChildBelow (length l.pool.trees) l.at;
  same : list_any (same_tree (tree_at l.pool.trees l.cell)) (cells_of l.replications (tree_at l.pool.trees l.at)) ≡ list_any (same_tree (tree_at l.pool.trees l.cell)) (cells_of l.replications (tree_at l.pool.trees l.fn.binders));
}

abbrev pub decreases-binders : goal.decreases-binders
decreases-binders l = above l.at
