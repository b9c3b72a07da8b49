use Rattle.std.proofs.Common.{◌≡◌, ◌++◌, length}
use Rattle.cv_pool.specs.Nodes.{ChildBelow}
use Rattle.cv_syntax.specs.PoolTrees.{tree_at}
use Rattle.cv_syntax.specs.Walks.{above}
use Rattle.cv_query_certificates.specs.PairParts.{names_in}
use Rattle.cv_costs.proofs.certificates.names_in.Given as goal

abbrev pub invariant-names : goal.invariant-names
invariant-names l = record {
  live : ChildBelow (length l.pool.trees) l.at;
  same : l.made.items ++ names_in (tree_at l.pool.trees l.at) ≡ names_in (tree_at l.pool.trees l.fn.list);
}

abbrev pub decreases-names : goal.decreases-names
decreases-names l = above l.at
