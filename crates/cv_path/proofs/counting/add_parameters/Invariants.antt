use Rattle.std.proofs.Common.{◌≡◌, ◌≤◌, ◌++◌, length}
use Rattle.cv_pool.specs.Nodes.{ChildBelow}
use Rattle.cv_syntax.specs.PoolTrees.{tree_at}
use Rattle.cv_syntax.specs.Walks.{above}
use Rattle.cv_path.specs.Copies.{most_factors, parameters}
use Rattle.cv_path.proofs.counting.add_parameters.Given as goal

abbrev pub invariant-indices : goal.invariant-indices
invariant-indices l = record {
  few : length l.product.items ≤ most_factors;
  live : ChildBelow (length l.pool.trees) l.at;
  added : l.product.items ++ parameters (tree_at l.pool.trees l.at) ≡ l.fn.product.items ++ parameters (tree_at l.pool.trees l.fn.indices);
}

abbrev pub decreases-indices : goal.decreases-indices
decreases-indices l = above l.at
