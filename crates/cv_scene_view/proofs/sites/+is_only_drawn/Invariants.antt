use Rattle.std.proofs.Common.{◌≡◌, ◌≤◌, length}
use Rattle.cv_pool.specs.Nodes.{ChildBelow}
use Rattle.cv_syntax.specs.PoolTrees.{tree_at}
use Rattle.cv_syntax.specs.Walks.{above}
use Rattle.cv_scene.specs.Scenes.{has_news_alone}
use Rattle.cv_scene_view.proofs.sites.+is_only_drawn.Given as goal

abbrev pub decreases-is_only_drawn : goal.decreases-is_only_drawn
decreases-is_only_drawn l = above l.tree

abbrev pub invariant-tree : goal.invariant-tree
invariant-tree l = record {
  live : ChildBelow (length l.pool.trees) l.at;
  less : above l.at ≤ above l.fn.tree;
  same : has_news_alone l.x (tree_at l.pool.trees l.at) ≡ has_news_alone l.fn.x (tree_at l.pool.trees l.fn.tree);
}

abbrev pub decreases-tree : goal.decreases-tree
decreases-tree l = above l.at
