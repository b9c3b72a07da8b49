use Rattle.std.proofs.Common.{◌≡◌, ◌+◌, ◌≤◌, length, false}
use Rattle.cv_pool.specs.Nodes.{ChildBelow}
use Rattle.cv_syntax_trees.specs.Tree.{size}
use Rattle.cv_syntax.specs.PoolTrees.{tree_at}
use Rattle.cv_syntax.specs.Walks.{above}
use Rattle.cv_match.specs.instances.Matchings.{matching_by}
use Rattle.cv_match.specs.instances.Walks.{use_unless}
use Rattle.cv_match.proofs.instances.outside.+outside_use.Given as goal

abbrev pub decreases-outside_use : goal.decreases-outside_use
decreases-outside_use l = above l.tree

abbrev pub invariant-tree : goal.invariant-tree
invariant-tree l = record {
  live : ChildBelow (length l.work.pool.trees) l.at;
  less : above l.at ≤ above l.fn.tree;
  sum : l.place + size (tree_at l.work.pool.trees l.at) ≡ l.fn.from + size (tree_at l.work.pool.trees l.fn.tree);
  same : use_unless false (matching_by l.work.pool l.work.decls l.search) l.here l.place (tree_at l.work.pool.trees l.at) ≡ use_unless false (matching_by l.work.pool l.work.decls l.search) l.fn.position l.fn.from (tree_at l.work.pool.trees l.fn.tree);
}

abbrev pub decreases-tree : goal.decreases-tree
decreases-tree l = above l.at
