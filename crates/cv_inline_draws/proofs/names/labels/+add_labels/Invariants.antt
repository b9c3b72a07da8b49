use Rattle.std.proofs.Common.{◌≡◌, ◌≤◌, ◌++◌, length}
use Rattle.cv_pool.specs.Nodes.{ChildBelow}
use Rattle.cv_syntax.specs.PoolTrees.{tree_at}
use Rattle.cv_syntax.specs.Walks.{above}
use Rattle.cv_inline.specs.Draws.{labels_in}
use Rattle.cv_inline_draws.proofs.names.labels.+add_labels.Given as goal

abbrev pub decreases-add_labels : goal.decreases-add_labels
decreases-add_labels l = above l.tree

abbrev pub decreases-nodes : goal.decreases-nodes
decreases-nodes l = above l.at

abbrev pub invariant-nodes : goal.invariant-nodes
invariant-nodes l = record {
  live : ChildBelow (length l.pool.trees) l.at;
  less : above l.at ≤ above l.fn.tree;
  labels : l.labels.items ++ labels_in (tree_at l.pool.trees l.at) ≡ l.fn.labels.items ++ labels_in (tree_at l.pool.trees l.fn.tree);
}
