use Rattle.std.proofs.Common.{◌≡◌, ◌+◌, ◌≤◌, length}
use Rattle.cv_pool.specs.Nodes.{ChildBelow}
use Rattle.cv_syntax_trees.specs.Tree.{size}
use Rattle.cv_syntax.specs.PoolTrees.{tree_at}
use Rattle.cv_syntax.specs.Walks.{above}
use Rattle.cv_scene_view.specs.Kept.{scene_of}
use Rattle.cv_query_certificates.specs.Secrets.{first_definition_but, is_copy}
use Rattle.cv_query_offences.proofs.copies.+uncopied.Given as goal

abbrev pub decreases-uncopied : goal.decreases-uncopied
decreases-uncopied l = above l.tree

abbrev pub invariant-tree : goal.invariant-tree
invariant-tree l = record {
  live : ChildBelow (length l.work.pool.trees) l.at;
  less : above l.at ≤ above l.fn.tree;
  sum : l.place + size (tree_at l.work.pool.trees l.at) ≡ l.fn.from + size (tree_at l.work.pool.trees l.fn.tree);
  same : first_definition_but (is_copy (scene_of l.work.pool l.work.decls l.game)) l.x l.place (tree_at l.work.pool.trees l.at) ≡ first_definition_but (is_copy (scene_of l.work.pool l.work.decls l.game)) l.fn.x l.fn.from (tree_at l.work.pool.trees l.fn.tree);
}

abbrev pub decreases-tree : goal.decreases-tree
decreases-tree l = above l.at
