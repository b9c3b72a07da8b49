use Rattle.std.proofs.Common.{◌≡◌, ◌+◌, ◌++◌, drop}
use Rattle.cv_context.specs.nodes.Written.{heads_of_calls, terms_of_calls}
use Rattle.cv_context.proofs.nodes.nodes.put_calls.Given as goal

abbrev pub invariant-calls : goal.invariant-calls
invariant-calls l = record {
  makes : l.makes.items ++ terms_of_calls l.pool.trees (drop l.k l.calls) ≡ l.fn.makes.items ++ terms_of_calls l.pool.trees l.calls;
  heads : l.heads.items ++ heads_of_calls l.roles (l.from + l.k) (drop l.k l.calls) ≡ l.fn.heads.items ++ heads_of_calls l.roles l.from l.calls;
}
