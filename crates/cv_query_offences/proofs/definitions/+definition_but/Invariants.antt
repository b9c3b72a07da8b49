use Rattle.std.proofs.Common.{◌≡◌, ◌+◌, ◌≤◌, length}
use Rattle.cv_pool.specs.Nodes.{ChildBelow}
use Rattle.cv_syntax_trees.specs.Tree.{size}
use Rattle.cv_syntax.specs.PoolTrees.{tree_at}
use Rattle.cv_syntax.specs.Walks.{above}
use Rattle.cv_query_certificates.specs.Secrets.{first_definition_but}
use Rattle.cv_query_offences.specs.Passing.{is_passed}
use Rattle.cv_query_offences.proofs.definitions.+definition_but.Given as goal

abbrev pub decreases-definition_but : goal.decreases-definition_but
decreases-definition_but l = above l.tree

abbrev pub invariant-tree : goal.invariant-tree
invariant-tree l = record {
  live : ChildBelow (length l.pool.trees) l.at;
  less : above l.at ≤ above l.fn.tree;
  sum : l.place + size (tree_at l.pool.trees l.at) ≡ l.fn.from + size (tree_at l.pool.trees l.fn.tree);
  same : first_definition_but (is_passed l.over) l.x l.place (tree_at l.pool.trees l.at) ≡ first_definition_but (is_passed l.fn.over) l.fn.x l.fn.from (tree_at l.pool.trees l.fn.tree);
}

abbrev pub decreases-tree : goal.decreases-tree
decreases-tree l = above l.at
