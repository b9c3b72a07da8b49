use Rattle.std.proofs.Common.{None}
use Rattle.cv_query_parts.specs.pairs.Walks.{IsWalked, Leads, needed_of_entries}
use Rattle.cv_query_parts.proofs.pairs.Walking.{all_from}
use Rattle.cv_query_parts.proofs.pairs.walk.walk_entry.Given as goal

abbrev pub invariant-entries : goal.invariant-entries
invariant-entries l = record {
  walked : IsWalked l.pool.trees l.walk;
  leads : Leads l.pool.trees l.fn.walk l.walk None (all_from l.pool.trees (λ e s k. needed_of_entries s k l.pool.trees l.entry e) l.entries 0)
      (all_from l.pool.trees (λ e s k. needed_of_entries s k l.pool.trees l.entry e) l.entries l.j);
}
