use Rattle.std.proofs.Common.{◌≡◌, ◌++◌, length}
use Rattle.cv_pool.specs.Nodes.{ChildBelow}
use Rattle.cv_syntax.specs.PoolTrees.{tree_at}
use Rattle.cv_syntax.specs.Walks.{above}
use Rattle.cv_inline_draws.proofs.callings.Lists.{variables}
use Rattle.cv_inline_draws.proofs.callings.names.add_binders.Given as goal

abbrev pub invariant-binders : goal.invariant-binders
invariant-binders l = record {
  live : ChildBelow (length l.pool.trees) l.at;
  names : l.names.items ++ variables (tree_at l.pool.trees l.at) ≡ l.fn.names.items ++ variables (tree_at l.pool.trees l.fn.binders);
}

abbrev pub decreases-binders : goal.decreases-binders
decreases-binders l = above l.at
