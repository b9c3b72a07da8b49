use Rattle.std.proofs.Common.{◌≡◌, ◌≤◌, ◌++◌, length}
use Rattle.cv_pool.specs.Nodes.{ChildBelow}
use Rattle.cv_syntax.specs.PoolTrees.{tree_at}
use Rattle.cv_syntax.specs.Walks.{above}
use Rattle.cv_inline_draws.specs.taken_names.Taken.{names_in}
use Rattle.cv_inline_draws.proofs.taken_names.names.+add_names.Given as goal

abbrev pub decreases-add_names : goal.decreases-add_names
decreases-add_names l = above l.tree

abbrev pub decreases-nodes : goal.decreases-nodes
decreases-nodes l = above l.at

abbrev pub invariant-nodes : goal.invariant-nodes
invariant-nodes l = record {
  live : ChildBelow (length l.pool.trees) l.at;
  less : above l.at ≤ above l.fn.tree;
  names : l.names.items ++ names_in (tree_at l.pool.trees l.at) ≡ l.fn.names.items ++ names_in (tree_at l.pool.trees l.fn.tree);
}
