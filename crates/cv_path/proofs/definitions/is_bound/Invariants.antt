use Rattle.std.proofs.Common.{◌≡◌, length}
use Rattle.cv_pool.specs.Nodes.{ChildBelow}
use Rattle.cv_syntax.specs.PoolTrees.{tree_at}
use Rattle.cv_syntax.specs.Walks.{above}
use Rattle.cv_scope_rules.specs.Made.{is_bound}
use Rattle.cv_path.proofs.definitions.is_bound.Given as goal

abbrev pub invariant-binders : goal.invariant-binders
invariant-binders l = record {
  live : ChildBelow (length l.pool.trees) l.at;
  same : is_bound (tree_at l.pool.trees l.at) l.x ≡ is_bound (tree_at l.pool.trees l.fn.list) l.x;
}

abbrev pub decreases-binders : goal.decreases-binders
decreases-binders l = above l.at
