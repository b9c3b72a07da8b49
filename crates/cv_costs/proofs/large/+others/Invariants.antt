use Rattle.std.proofs.Common.{◌≡◌, ◌+◌, ◌≤◌, length}
use Rattle.cv_pool.specs.Nodes.{ChildBelow}
use Rattle.cv_syntax_trees.specs.Tree.{size}
use Rattle.cv_syntax.specs.PoolTrees.{tree_at}
use Rattle.cv_syntax.specs.Walks.{above}
use Rattle.cv_scene_view.specs.Kept.{scene_of}
use Rattle.cv_scene.specs.Large.{first_other_site, is_large}
use Rattle.cv_costs.proofs.large.+others.Given as goal

abbrev pub decreases-others : goal.decreases-others
decreases-others l = above l.tree

abbrev pub invariant-tree : goal.invariant-tree
invariant-tree l = record {
  live : ChildBelow (length l.work.pool.trees) l.at;
  less : above l.at ≤ above l.fn.tree;
  sum : l.place + size (tree_at l.work.pool.trees l.at) ≡ l.fn.from + size (tree_at l.work.pool.trees l.fn.tree);
  same : first_other_site (is_large (scene_of l.work.pool l.work.decls l.game)) l.x l.place (tree_at l.work.pool.trees l.at) ≡ first_other_site (is_large (scene_of l.work.pool l.work.decls l.game)) l.fn.x l.fn.from (tree_at l.work.pool.trees l.fn.tree);
}

abbrev pub decreases-tree : goal.decreases-tree
decreases-tree l = above l.at
