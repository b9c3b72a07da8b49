use Rattle.std.proofs.Common.{◌≡◌, length}
use Rattle.cv_pool.specs.Nodes.{ChildBelow}
use Rattle.cv_syntax.specs.PoolTrees.{tree_at}
use Rattle.cv_syntax.specs.Walks.{above}
use Rattle.cv_query_certificates.specs.EventNodes.{are_as_many}
use Rattle.cv_query_entries.proofs.nodes.are_as_many.Given as goal

abbrev pub invariant-terms : goal.invariant-terms
invariant-terms l = record {
  here : ChildBelow (length l.pool.trees) l.here;
  there : ChildBelow (length l.pool.trees) l.there;
  same : are_as_many (tree_at l.pool.trees l.here) (tree_at l.pool.trees l.there) ≡ are_as_many (tree_at l.pool.trees l.fn.left) (tree_at l.pool.trees l.fn.right);
}

abbrev pub decreases-terms : goal.decreases-terms
decreases-terms l = above l.here
