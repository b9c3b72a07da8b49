use Rattle.std.proofs.Common.{◌≡◌, ◌≤◌, length}
use Rattle.cv_pool.specs.Nodes.{ChildBelow}
use Rattle.cv_syntax_trees.specs.Tree.{size}
use Rattle.cv_syntax.specs.PoolTrees.{tree_at}
use Rattle.cv_syntax.specs.Walks.{above}
use Rattle.cv_scene_view.specs.Kept.{scene_of}
use Rattle.cv_rule_pick.specs.Picking.{are_terms_at}
use Rattle.cv_rule_pick.proofs.indices.are_terms.Given as goal

abbrev pub invariant-terms : goal.invariant-terms
invariant-terms l = record {
  live : ChildBelow (length l.work.pool.trees) l.at;
  short : size (tree_at l.work.pool.trees l.at) ≤ size (tree_at l.work.pool.trees l.fn.terms);
  same : are_terms_at (scene_of l.work.pool l.work.decls l.game) l.place (tree_at l.work.pool.trees l.at) ≡ are_terms_at (scene_of l.work.pool l.work.decls l.game) l.place (tree_at l.work.pool.trees l.fn.terms);
}

abbrev pub decreases-terms : goal.decreases-terms
decreases-terms l = above l.at
