use Rattle.std.proofs.Common.{◌≡◌, ◌≤◌, length}
use Rattle.cv_pool.specs.Nodes.{ChildBelow}
use Rattle.cv_syntax.specs.PoolTrees.{tree_at}
use Rattle.cv_syntax.specs.Walks.{above}
use Rattle.cv_rule_codef.specs.Adjacent.{are_joined}
use Rattle.cv_rule_codef.proofs.adjacent.+are_joined.Given as goal

abbrev pub decreases-are_joined : goal.decreases-are_joined
decreases-are_joined l = above l.tree

abbrev pub invariant-tree : goal.invariant-tree
invariant-tree l = record {
  live : ChildBelow (length l.pool.trees) l.at;
  less : above l.at ≤ above l.fn.tree;
  same : are_joined l.x l.y (tree_at l.pool.trees l.at) ≡ are_joined l.fn.x l.fn.y (tree_at l.pool.trees l.fn.tree);
}

abbrev pub decreases-tree : goal.decreases-tree
decreases-tree l = above l.at
