use Rattle.std.proofs.Common.{◌≡◌, ◌≤◌, length}
use Rattle.cv_pool.specs.Nodes.{ChildBelow}
use Rattle.cv_syntax_trees.specs.Tree.{size, subtree}
use Rattle.cv_syntax.specs.PoolTrees.{tree_at}
use Rattle.cv_syntax.specs.Walks.{above}
use Rattle.cv_query_parts.specs.Views.{game_of, trees_of}
use Rattle.cv_query_parts.proofs.places.node_at.Given as goal

abbrev pub invariant-down : goal.invariant-down
invariant-down l = record {
  live : ChildBelow (length (trees_of l.view)) l.at;
  within : size (tree_at (trees_of l.view) l.at) ≤ size (game_of l.view);
  same : subtree (tree_at (trees_of l.view) l.at) l.left ≡ subtree (game_of l.view) l.fn.place;
}

abbrev pub decreases-down : goal.decreases-down
decreases-down l = above l.at
