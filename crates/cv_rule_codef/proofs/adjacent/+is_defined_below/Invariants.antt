use Rattle.std.proofs.Common.{◌≡◌, ◌≤◌, length}
use Rattle.cv_pool.specs.Nodes.{ChildBelow}
use Rattle.cv_syntax.specs.PoolTrees.{tree_at}
use Rattle.cv_syntax.specs.Walks.{above}
use Rattle.cv_rule_codef.specs.Adjacent.{is_defined_below}
use Rattle.cv_rule_codef.proofs.adjacent.+is_defined_below.Given as goal

abbrev pub decreases-is_defined_below : goal.decreases-is_defined_below
decreases-is_defined_below l = above l.tree

abbrev pub invariant-tree : goal.invariant-tree
invariant-tree l = record {
  live : ChildBelow (length l.pool.trees) l.at;
  less : above l.at ≤ above l.fn.tree;
  same : is_defined_below l.x (tree_at l.pool.trees l.at) ≡ is_defined_below l.fn.x (tree_at l.pool.trees l.fn.tree);
}

abbrev pub decreases-tree : goal.decreases-tree
decreases-tree l = above l.at
