use Rattle.std.proofs.Common.{◌≡◌, ◌++◌}
use Rattle.cv_grounds.specs.Lists.{binder_names}
use Rattle.cv_syntax.specs.PoolTrees.{tree_at}
use Rattle.cv_grounds.proofs.Listing.{numbers_below}
use Rattle.cv_grounds.proofs.nodes.binders.Given as goal

abbrev pub invariant-cells : goal.invariant-cells
invariant-cells l = l.names.items ++ binder_names (tree_at l.pool.trees l.at) ≡ binder_names (tree_at l.pool.trees l.fn.list)

abbrev pub decreases-cells : goal.decreases-cells
decreases-cells l = numbers_below l.at
