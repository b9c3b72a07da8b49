use Rattle.std.proofs.Common.{◌≡◌, ◌+◌, ◌≤◌, ◌<◌, ◌^◌, length}
use Rattle.cv_pool.specs.Nodes.{ChildBelow}
use Rattle.cv_syntax.specs.PoolTrees.{tree_at}
use Rattle.cv_print.specs.Numbers.{above}
use Rattle.cv_print_tables.specs.Items.{listed}
use Rattle.cv_print_tables.specs.Prints.{chain_items}
use Rattle.cv_print_tables.proofs.items.count.Given as goal

abbrev pub invariant-chain : goal.invariant-chain
invariant-chain l = record {
  below : ChildBelow (length l.pool.trees) l.at;
  small : l.found + above l.at ≤ 2 ^ 32;
  items : l.found + length (chain_items (tree_at l.pool.trees l.at)) ≡ length (listed l.pool.trees l.fn.items);
}

abbrev pub decreases-chain : goal.decreases-chain
decreases-chain l = above l.at
