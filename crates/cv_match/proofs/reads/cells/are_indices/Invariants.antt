use Rattle.std.proofs.Common.{◌≡◌, drop, length}
use Rattle.cv_pool.specs.Nodes.{ChildBelow}
use Rattle.cv_syntax_trees.specs.Tree.{same_tree}
use Rattle.cv_syntax.specs.PoolTrees.{tree_at}
use Rattle.cv_scope_rules.specs.Context.{index_terms}
use Rattle.cv_match.proofs.reads.cells.are_indices.Given as goal

abbrev pub invariant-loop-replication : goal.invariant-loop-replication
invariant-loop-replication l = record {
  live : ChildBelow (length l.pool.trees) l.at;
  same : same_tree (tree_at l.pool.trees l.at) (index_terms (drop l.replication-index l.replications)) ≡ same_tree (tree_at l.pool.trees l.fn.list) (index_terms l.replications);
}
