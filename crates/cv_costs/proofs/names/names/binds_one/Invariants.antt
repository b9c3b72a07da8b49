use Rattle.std.proofs.Common.{◌≡◌, length}
use Rattle.cv_pool.specs.Nodes.{ChildBelow}
use Rattle.cv_syntax.specs.NameSets.{is_in}
use Rattle.cv_syntax.specs.PoolTrees.{tree_at}
use Rattle.cv_syntax.specs.Walks.{above}
use Rattle.cv_costs.specs.names.Naming.{binds_one}
use Rattle.cv_costs.proofs.names.names.binds_one.Given as goal

abbrev pub invariant-binders : goal.invariant-binders
invariant-binders l = record {
  live : ChildBelow (length l.pool.trees) l.at;
  same : binds_one (is_in l.fn.names) (tree_at l.pool.trees l.at) ≡ binds_one (is_in l.fn.names) (tree_at l.pool.trees l.fn.binders);
}

abbrev pub decreases-binders : goal.decreases-binders
decreases-binders l = above l.at
