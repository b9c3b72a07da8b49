use Rattle.std.proofs.Common.{◌≡◌, ◌+◌, ◌++◌, ◌≤◌, length}
use Rattle.cv_pool.specs.Nodes.{ChildBelow}
use Rattle.cv_syntax_trees.specs.Tree.{size}
use Rattle.cv_syntax.specs.PoolTrees.{tree_at}
use Rattle.cv_syntax.specs.Walks.{above}
use Rattle.cv_query_certificates.specs.EventNodes.{event_places}
use Rattle.cv_query_entries.proofs.nodes.+add_places.Given as goal

abbrev pub decreases-add_places : goal.decreases-add_places
decreases-add_places l = above l.tree

abbrev pub invariant-tree : goal.invariant-tree
invariant-tree l = record {
  live : ChildBelow (length l.pool.trees) l.below;
  less : above l.below ≤ above l.fn.tree;
  sum : l.place + size (tree_at l.pool.trees l.below) ≡ l.fn.from + size (tree_at l.pool.trees l.fn.tree);
  same : l.found.items ++ event_places l.event l.place (tree_at l.pool.trees l.below) ≡ l.fn.found.items ++ event_places l.event l.fn.from (tree_at l.pool.trees l.fn.tree);
}

abbrev pub decreases-tree : goal.decreases-tree
decreases-tree l = above l.below
