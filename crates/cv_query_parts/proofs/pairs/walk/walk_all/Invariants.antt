use Rattle.std.proofs.Common.{None, drop}
use Rattle.cv_query_parts.specs.pairs.Walks.{IsWalked, Leads, needed_of_all}
use Rattle.cv_query_parts.proofs.pairs.walk.walk_all.Given as goal

abbrev pub invariant-entries : goal.invariant-entries
invariant-entries l = record {
  walked : IsWalked l.pool.trees l.walk;
  leads : Leads l.pool.trees l.fn.walk l.walk None (λ s k. needed_of_all s k l.pool.trees l.entries) (λ s k. needed_of_all s k l.pool.trees (drop l.j l.entries));
}
