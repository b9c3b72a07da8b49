use Rattle.std.proofs.Common.{◌≡◌, ◌≤◌, length}
use Rattle.cv_pool.specs.Nodes.{ChildBelow}
use Rattle.cv_syntax.specs.PoolTrees.{tree_at}
use Rattle.cv_syntax.specs.Walks.{above}
use Rattle.cv_rule_codef.specs.Adjacent.{stands_above}
use Rattle.cv_rule_codef.proofs.adjacent.+stands_above.Given as goal

abbrev pub decreases-stands_above : goal.decreases-stands_above
decreases-stands_above l = above l.tree

abbrev pub invariant-tree : goal.invariant-tree
invariant-tree l = record {
  live : ChildBelow (length l.pool.trees) l.at;
  less : above l.at ≤ above l.fn.tree;
  same : stands_above l.x l.y (tree_at l.pool.trees l.at) ≡ stands_above l.fn.x l.fn.y (tree_at l.pool.trees l.fn.tree);
}

abbrev pub decreases-tree : goal.decreases-tree
decreases-tree l = above l.at
