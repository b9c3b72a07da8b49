use Rattle.std.proofs.Common.{◌≡◌, ◌++◌, length}
use Rattle.cv_pool.specs.Nodes.{ChildBelow}
use Rattle.cv_syntax.specs.PoolTrees.{tree_at}
use Rattle.cv_syntax.specs.Walks.{above}
use Rattle.cv_query_certificates.specs.PairParts as certificates
use Rattle.cv_query_parts.proofs.pairs.rest.names_in.Given as goal

abbrev pub invariant-names : goal.invariant-names
invariant-names l = record {
  live : ChildBelow (length l.pool.trees) l.at;
  same : l.found.items ++ certificates.names_in (tree_at l.pool.trees l.at) ≡ certificates.names_in (tree_at l.pool.trees l.fn.names);
}

abbrev pub decreases-names : goal.decreases-names
decreases-names l = above l.at
