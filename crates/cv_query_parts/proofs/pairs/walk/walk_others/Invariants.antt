use Rattle.std.proofs.Common.{None}
use Rattle.cv_query_parts.specs.pairs.Walks.{IsWalked, Leads, needed_of_routes}
use Rattle.cv_query_parts.proofs.pairs.Walking.{all_from}
use Rattle.cv_query_parts.proofs.pairs.walk.walk_others.Given as goal

abbrev pub invariant-others : goal.invariant-others
invariant-others l = record {
  walked : IsWalked l.pool.trees l.walk;
  leads : Leads l.pool.trees l.fn.walk l.walk None (all_from l.pool.trees (λ t s k. needed_of_routes s k l.pool.trees l.first l.second l.one t) l.others 0)
      (all_from l.pool.trees (λ t s k. needed_of_routes s k l.pool.trees l.first l.second l.one t) l.others l.j);
}
