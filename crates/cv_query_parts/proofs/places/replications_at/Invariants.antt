use Rattle.std.proofs.Common.{◌≡◌, ◌≤◌, [], length}
use Rattle.cv_pool.specs.Nodes.{ChildBelow}
use Rattle.cv_syntax_trees.specs.Tree.{size}
use Rattle.cv_syntax.specs.PoolTrees.{tree_at}
use Rattle.cv_syntax.specs.Walks.{above}
use Rattle.cv_scene_view.proofs.Above.{passed_to}
use Rattle.cv_query_parts.specs.Views.{game_of, trees_of}
use Rattle.cv_query_parts.proofs.places.replications_at.Given as goal

abbrev pub invariant-down : goal.invariant-down
invariant-down l = record {
  live : ChildBelow (length (trees_of l.view)) l.at;
  within : size (tree_at (trees_of l.view) l.at) ≤ size (game_of l.view);
  same : passed_to l.passed.items (tree_at (trees_of l.view) l.at) l.left ≡ passed_to [] (game_of l.view) l.fn.place;
}

abbrev pub decreases-down : goal.decreases-down
decreases-down l = above l.at
