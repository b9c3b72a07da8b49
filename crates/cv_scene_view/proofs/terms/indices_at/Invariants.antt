use Rattle.std.proofs.Common.{◌≡◌, ◌+◌, ◌≤◌, Some}
use Rattle.cv_pool.specs.Nodes.{ChildBelow}
use Rattle.cv_syntax_trees.specs.Tree.{size}
use Rattle.cv_syntax.specs.PoolTrees.{tree_at}
use Rattle.cv_syntax.specs.Walks.{above}
use Rattle.cv_scope_rules.specs.typing.Parts.{nothing_above}
use Rattle.cv_typing.specs.Tables.{above_of}
use Rattle.cv_scene_view.proofs.Above.{above_to}
use Rattle.cv_scene_view.proofs.terms.indices_at.Given as goal

abbrev pub invariant-down : goal.invariant-down
invariant-down l = record {
  live : ChildBelow (l.fn.game.0 + 1) l.at;
  within : size (tree_at l.work.pool.trees l.at) ≤ size (tree_at l.work.pool.trees (Some l.fn.game));
  same : above_to (above_of l.above) (tree_at l.work.pool.trees l.at) l.left ≡ above_to nothing_above (tree_at l.work.pool.trees (Some l.fn.game)) l.fn.place;
}

abbrev pub decreases-down : goal.decreases-down
decreases-down l = above l.at
