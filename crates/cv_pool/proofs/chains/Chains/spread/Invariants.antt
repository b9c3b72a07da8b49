use Rattle.std.proofs.Common.{◌≡◌, ◌≤◌, length, vec_capacity}
use Rattle.cv_pool.specs.Chain.{IsChained, buckets, chained}
use Rattle.cv_pool.proofs.chains.Chains.spread.Given as goal

abbrev pub invariant-nodes : goal.invariant-nodes
invariant-nodes l = record {
  linked : IsChained l.nodes l.self;
  count : chained l.self ≡ l.counter;
  buckets : buckets l.self ≡ l.size;
  room : vec_capacity l.fn.self.nexts ≤ vec_capacity l.self.nexts;
  end : l.end ≡ length l.nodes;
}
