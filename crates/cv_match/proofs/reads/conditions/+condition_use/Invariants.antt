use Rattle.std.proofs.Common.{◌≡◌, ◌+◌, ◌≤◌, length}
use Rattle.cv_pool.specs.Nodes.{ChildBelow}
use Rattle.cv_syntax_trees.specs.Tree.{size}
use Rattle.cv_syntax.specs.PoolTrees.{tree_at}
use Rattle.cv_syntax.specs.Walks.{above}
use Rattle.cv_match.specs.reads.Within.{use_within}
use Rattle.cv_match.proofs.reads.conditions.+condition_use.Given as goal

abbrev pub decreases-condition_use : goal.decreases-condition_use
decreases-condition_use l = above l.tree

abbrev pub invariant-tree : goal.invariant-tree
invariant-tree l = record {
  live : ChildBelow (length l.pool.trees) l.at;
  less : above l.at ≤ above l.fn.tree;
  sum : l.place + size (tree_at l.pool.trees l.at) ≡ l.fn.from + size (tree_at l.pool.trees l.fn.tree);
  same : use_within l.within l.x l.here l.place (tree_at l.pool.trees l.at) ≡ use_within l.within l.x l.fn.position l.fn.from (tree_at l.pool.trees l.fn.tree);
}

abbrev pub decreases-tree : goal.decreases-tree
decreases-tree l = above l.at
