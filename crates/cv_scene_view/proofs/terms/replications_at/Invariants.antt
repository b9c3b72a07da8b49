use Rattle.std.proofs.Common.{◌≡◌, ◌+◌, ◌≤◌, [], Some}
use Rattle.cv_pool.specs.Nodes.{ChildBelow}
use Rattle.cv_syntax_trees.specs.Tree.{size}
use Rattle.cv_syntax.specs.PoolTrees.{tree_at}
use Rattle.cv_syntax.specs.Walks.{above}
use Rattle.cv_scene_view.proofs.Above.{passed_to}
use Rattle.cv_scene_view.proofs.terms.replications_at.Given as goal

abbrev pub invariant-down : goal.invariant-down
invariant-down l = record {
  live : ChildBelow (l.fn.game.0 + 1) l.at;
  within : size (tree_at l.work.pool.trees l.at) ≤ size (tree_at l.work.pool.trees (Some l.fn.game));
  same : passed_to l.passed.items (tree_at l.work.pool.trees l.at) l.left ≡ passed_to [] (tree_at l.work.pool.trees (Some l.fn.game)) l.fn.place;
}

abbrev pub decreases-down : goal.decreases-down
decreases-down l = above l.at
