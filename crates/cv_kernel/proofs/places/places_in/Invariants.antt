use Rattle.std.proofs.Common.{◌≡◌, ◌++◌, length}
use Rattle.cv_pool.specs.Nodes.{ChildBelow}
use Rattle.cv_syntax.specs.PoolTrees.{tree_at}
use Rattle.cv_syntax.specs.Walks.{above}
use Rattle.cv_kernel.specs.Places.{listed_numbers}
use Rattle.cv_kernel.proofs.places.places_in.Given as goal

abbrev pub invariant-items : goal.invariant-items
invariant-items l = record {
  live : ChildBelow (length l.pool.trees) l.at;
  listed : l.places.items ++ listed_numbers (tree_at l.pool.trees l.at) ≡ listed_numbers (tree_at l.pool.trees l.fn.list);
}

abbrev pub decreases-items : goal.decreases-items
decreases-items l = above l.at
