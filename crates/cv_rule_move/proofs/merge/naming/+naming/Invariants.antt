use Rattle.std.proofs.Common.{◌≡◌, ◌+◌, ◌≤◌, length}
use Rattle.cv_pool.specs.Nodes.{ChildBelow}
use Rattle.cv_syntax_trees.specs.Tree.{size}
use Rattle.cv_syntax.specs.NameSets.{is_in}
use Rattle.cv_syntax.specs.PoolTrees.{tree_at}
use Rattle.cv_syntax.specs.Walks.{above}
use Rattle.cv_rule_move.specs.merge.Looks.{is_skipped}
use Rattle.cv_costs.specs.names.Naming.{first_naming}
use Rattle.cv_rule_move.proofs.merge.naming.+naming.Given as goal

abbrev pub decreases-naming : goal.decreases-naming
decreases-naming l = above l.tree

abbrev pub invariant-tree : goal.invariant-tree
invariant-tree l = record {
  live : ChildBelow (length l.pool.trees) l.at;
  less : above l.at ≤ above l.fn.tree;
  sum : l.place + size (tree_at l.pool.trees l.at) ≡ l.fn.from + size (tree_at l.pool.trees l.fn.tree);
  same : first_naming (is_in l.fn.names) (is_skipped l.fn.skip) l.place (tree_at l.pool.trees l.at) ≡ first_naming (is_in l.fn.names) (is_skipped l.fn.skip) l.fn.from (tree_at l.pool.trees l.fn.tree);
}

abbrev pub decreases-tree : goal.decreases-tree
decreases-tree l = above l.at
