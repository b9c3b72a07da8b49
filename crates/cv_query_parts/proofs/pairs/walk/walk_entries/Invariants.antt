use Rattle.std.proofs.Common.{None}
use Rattle.cv_query_parts.specs.pairs.Walks.{IsWalked, Leads, needed_of_route}
use Rattle.cv_query_parts.proofs.pairs.Walking.{all_from}
use Rattle.cv_query_parts.proofs.pairs.walk.walk_entries.Given as goal

abbrev pub invariant-routes : goal.invariant-routes
invariant-routes l = record {
  walked : IsWalked l.pool.trees l.walk;
  leads : Leads l.pool.trees l.fn.walk l.walk None (all_from l.pool.trees (λ r s k. needed_of_route s k l.pool.trees l.entry.place l.other.place r l.others) l.routes 0)
      (all_from l.pool.trees (λ r s k. needed_of_route s k l.pool.trees l.entry.place l.other.place r l.others) l.routes l.j);
}
