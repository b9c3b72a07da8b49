use Rattle.std.proofs.Common.{◌≡◌, ◌≤◌, length, max}
use Rattle.cv_pool.specs.Nodes.{ChildBelow}
use Rattle.cv_syntax.specs.PoolTrees.{tree_at}
use Rattle.cv_syntax.specs.Walks.{above}
use Rattle.cv_query_certificates.specs.Marks as marks
use Rattle.cv_query_parts.proofs.pairs.marks.+names_end.Given as goal

abbrev pub decreases-names_end : goal.decreases-names_end
decreases-names_end l = above l.tree

abbrev pub invariant-chain : goal.invariant-chain
invariant-chain l = record {
  live : ChildBelow (length l.pool.trees) l.at;
  less : above l.at ≤ above l.fn.tree;
  same : max l.end (marks.names_end (tree_at l.pool.trees l.at)) ≡ marks.names_end (tree_at l.pool.trees l.fn.tree);
}

abbrev pub decreases-chain : goal.decreases-chain
decreases-chain l = above l.at
