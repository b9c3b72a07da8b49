use Rattle.std.proofs.Common.{◌≡◌, drop, length}
use Rattle.cv_pool.specs.Nodes.{ChildBelow}
use Rattle.cv_syntax.specs.PoolTrees.{tree_at}
use Rattle.cv_query_certificates.specs.PairParts as certificates
use Rattle.cv_query_parts.proofs.pairs.rest.behind_entries.Given as goal

abbrev pub invariant-places : goal.invariant-places
invariant-places l = record {
  live : ChildBelow (length l.pool.trees) l.at;
  same : certificates.behind_entries (drop l._k l.places) (tree_at l.pool.trees l.at) ≡ certificates.behind_entries l.places (tree_at l.pool.trees l.fn.parts);
}
