use Rattle.std.proofs.Common.{◌≡◌, ◌+◌, ◌≤◌, length}
use Rattle.cv_pool.specs.Nodes.{ChildBelow}
use Rattle.cv_syntax_trees.specs.Tree.{size}
use Rattle.cv_syntax.specs.PoolTrees.{tree_at}
use Rattle.cv_syntax.specs.Walks.{above}
use Rattle.cv_rule_codef.specs.Adjacent.{sites}
use Rattle.cv_rule_codef.proofs.adjacent.+sites.Given as goal

abbrev pub decreases-sites : goal.decreases-sites
decreases-sites l = above l.tree

abbrev pub invariant-tree : goal.invariant-tree
invariant-tree l = record {
  live : ChildBelow (length l.pool.trees) l.at;
  less : above l.at ≤ above l.fn.tree;
  small : size (tree_at l.pool.trees l.at) ≤ size (tree_at l.pool.trees l.fn.tree);
  sum : l.count + sites l.x (tree_at l.pool.trees l.at) ≡ sites l.fn.x (tree_at l.pool.trees l.fn.tree);
}

abbrev pub decreases-tree : goal.decreases-tree
decreases-tree l = above l.at
