use Rattle.std.proofs.Common.{◌≡◌, ◌+◌, ◌++◌, ◌≤◌, All, length, map}
use Rattle.cv_pool.specs.Nodes.{ChildBelow}
use Rattle.cv_syntax_trees.specs.Tree.{size}
use Rattle.cv_syntax.specs.PoolTrees.{tree_at}
use Rattle.cv_syntax.specs.Walks.{above}
use Rattle.cv_query_certificates.specs.SecretPairs.{copies_in}
use Rattle.cv_query_offences.specs.Copies.{IsCopyBelow, copy_seen}
use Rattle.cv_query_offences.proofs.cells.+add_copies.Given as goal

abbrev pub decreases-add_copies : goal.decreases-add_copies
decreases-add_copies l = above l.tree

abbrev pub invariant-tree : goal.invariant-tree
invariant-tree l = record {
  live : ChildBelow (length l.pool.trees) l.at;
  less : above l.at ≤ above l.fn.tree;
  sum : l.place + size (tree_at l.pool.trees l.at) ≡ l.fn.from + size (tree_at l.pool.trees l.fn.tree);
  found : All (IsCopyBelow (length l.pool.trees)) l.found.items;
  same : map (copy_seen l.pool.trees) l.found.items ++ copies_in l.x l.place (tree_at l.pool.trees l.at) ≡ map (copy_seen l.pool.trees) l.fn.found.items ++ copies_in l.x l.fn.from (tree_at l.pool.trees l.fn.tree);
}

abbrev pub decreases-tree : goal.decreases-tree
decreases-tree l = above l.at
