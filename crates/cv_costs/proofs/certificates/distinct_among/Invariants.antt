use Rattle.std.proofs.Common.{◌≡◌, length}
use Rattle.cv_pool.specs.Nodes.{ChildBelow}
use Rattle.cv_syntax.specs.PoolTrees.{tree_at}
use Rattle.cv_syntax.specs.Walks.{above}
use Rattle.cv_costs.specs.Certificates.{distinct_among}
use Rattle.cv_costs.proofs.certificates.distinct_among.Given as goal

abbrev pub invariant-parts : goal.invariant-parts
invariant-parts l = record {
  live : ChildBelow (length l.pool.trees) l.at;
  same : distinct_among (tree_at l.pool.trees l.at) ≡ distinct_among (tree_at l.pool.trees l.fn.parts);
}

abbrev pub decreases-parts : goal.decreases-parts
decreases-parts l = above l.at
