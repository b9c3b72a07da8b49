use Rattle.std.proofs.Common.{◌≡◌, ◌≤◌, ◌++◌, length}
use Rattle.cv_pool.specs.Nodes.{ChildBelow}
use Rattle.cv_syntax.specs.Postorder.{postorder}
use Rattle.cv_syntax.specs.PoolTrees.{tree_at}
use Rattle.cv_syntax.specs.Walks.{above}
use Rattle.cv_syntax.specs.parts.Closing.{closing}
use Rattle.cv_query_certificates.specs.Marks as marks
use Rattle.cv_query_parts.proofs.pairs.marks.+push_plain.Given as goal

abbrev pub decreases-push_plain : goal.decreases-push_plain
decreases-push_plain l = above l.tree

abbrev pub invariant-chain : goal.invariant-chain
invariant-chain l = record {
  live : ChildBelow (length l.pool.trees) l.at;
  smaller : above l.at ≤ above l.fn.tree;
  made : l.makes.items ++ (postorder (marks.plain l.k (tree_at l.pool.trees l.at)) ++ closing l.heads.items) ≡ l.fn.makes.items ++ postorder (marks.plain l.fn.k (tree_at l.pool.trees l.fn.tree));
}

abbrev pub decreases-chain : goal.decreases-chain
decreases-chain l = above l.at
