use Rattle.std.proofs.Common.{◌≡◌, length}
use Rattle.cv_pool.specs.Nodes.{ChildBelow}
use Rattle.cv_syntax.specs.PoolTrees.{tree_at}
use Rattle.cv_syntax.specs.Walks.{above}
use Rattle.cv_scene_view.specs.Kept.{scene_of}
use Rattle.cv_rule_pick.specs.Picking.{are_indices_at}
use Rattle.cv_rule_pick.proofs.indices.are_indices.Given as goal

abbrev pub invariant-binders : goal.invariant-binders
invariant-binders l = record {
  live : ChildBelow (length l.work.pool.trees) l.at;
  left : ChildBelow (length l.work.pool.trees) l.left;
  same : are_indices_at (scene_of l.work.pool l.work.decls l.game) l.place (tree_at l.work.pool.trees l.at) (tree_at l.work.pool.trees l.left)
      ≡ are_indices_at (scene_of l.work.pool l.work.decls l.game) l.place (tree_at l.work.pool.trees l.fn.given.binders) (tree_at l.work.pool.trees l.fn.given.terms);
}

abbrev pub decreases-binders : goal.decreases-binders
decreases-binders l = above l.at
