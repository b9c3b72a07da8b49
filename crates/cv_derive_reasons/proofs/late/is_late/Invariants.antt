use Rattle.std.proofs.Common.{◌≡◌, ◌+◌, ◌≤◌, Some}
use Rattle.cv_pool.specs.Nodes.{ChildBelow}
use Rattle.cv_syntax_trees.specs.Tree.{size}
use Rattle.cv_syntax.specs.PoolTrees.{tree_at}
use Rattle.cv_syntax.specs.Walks.{above}
use Rattle.cv_scene.specs.Late.{is_late}
use Rattle.cv_derive_reasons.proofs.late.is_late.Given as goal

abbrev pub invariant-down : goal.invariant-down
invariant-down l = record {
  live : ChildBelow (l.fn.game.root.0 + 1) l.at;
  within : size (tree_at l.pool.trees l.at) ≤ size (tree_at l.pool.trees (Some l.fn.game.root));
  same : is_late l.x (tree_at l.pool.trees l.at) l.left ≡ is_late l.x (tree_at l.pool.trees (Some l.fn.game.root)) l.fn.place;
}

abbrev pub decreases-down : goal.decreases-down
decreases-down l = above l.at
