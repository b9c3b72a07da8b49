use Rattle.std.proofs.Common.{◌≡◌, ◌+◌, ◌++◌, ◌≤◌, Some, length}
use Rattle.std.specs.Prelude.{option_map}
use Rattle.cv_pool.specs.Nodes.{ChildBelow}
use Rattle.cv_syntax_trees.specs.Tree.{size}
use Rattle.cv_syntax.specs.PoolTrees.{tree_at}
use Rattle.cv_syntax.specs.Walks.{above}
use Rattle.cv_path.specs.Copies.{copies_at, most_factors}
use Rattle.cv_path.proofs.counting.copies.Given as goal

abbrev pub invariant-down : goal.invariant-down
invariant-down l = record {
  few : length l.parameters.items ≤ most_factors;
  live : ChildBelow (l.fn.root.0 + 1) l.at;
  within : size (tree_at l.pool.trees l.at) ≤ size (tree_at l.pool.trees (Some l.fn.root));
  factors : option_map (λ ns. l.parameters.items ++ ns) (copies_at (tree_at l.pool.trees l.at) l.left) ≡ copies_at (tree_at l.pool.trees (Some l.fn.root)) l.fn.place;
}

abbrev pub decreases-down : goal.decreases-down
decreases-down l = above l.at
