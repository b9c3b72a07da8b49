use Rattle.std.proofs.Common.{◌≡◌, ◌<◌, All, ◌++◌, length}
use Rattle.cv_grounds.specs.Lists.{full_items, trees_at}
use Rattle.cv_syntax.specs.PoolTrees.{tree_at}
use Rattle.cv_grounds.proofs.Listing.{numbers_below}
use Rattle.cv_grounds.proofs.nodes.items.Given as goal

abbrev pub invariant-cells : goal.invariant-cells
invariant-cells l = record {
  told : trees_at l.pool.trees l.items.items ++ full_items (tree_at l.pool.trees l.at) ≡ full_items (tree_at l.pool.trees l.fn.list);
  live : All (λ n. n.0 < length l.pool.trees) l.items.items;
}

abbrev pub decreases-cells : goal.decreases-cells
decreases-cells l = numbers_below l.at
