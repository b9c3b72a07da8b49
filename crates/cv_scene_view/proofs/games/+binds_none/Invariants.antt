use Rattle.std.proofs.Common.{◌≡◌, ◌≤◌, length}
use Rattle.cv_pool.specs.Nodes.{ChildBelow}
use Rattle.cv_syntax.specs.PoolTrees.{tree_at}
use Rattle.cv_syntax.specs.Walks.{above}
use Rattle.cv_scope.specs.Held.{names_held}
use Rattle.cv_scope_rules.specs.Phrases.{binds_none}
use Rattle.cv_scene_view.proofs.games.+binds_none.Given as goal

abbrev pub decreases-binds_none : goal.decreases-binds_none
decreases-binds_none l = above l.tree

abbrev pub invariant-tree : goal.invariant-tree
invariant-tree l = record {
  live : ChildBelow (length l.pool.trees) l.at;
  less : above l.at ≤ above l.fn.tree;
  same : binds_none (names_held l.names).constant (tree_at l.pool.trees l.at) ≡ binds_none (names_held l.names).constant (tree_at l.pool.trees l.fn.tree);
}

abbrev pub decreases-tree : goal.decreases-tree
decreases-tree l = above l.at
