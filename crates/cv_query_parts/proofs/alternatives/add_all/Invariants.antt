use Rattle.std.proofs.Common.{◌≡◌, ◌++◌, take}
use Rattle.cv_query_parts.specs.Alternatives.{lists}
use Rattle.cv_query_parts.proofs.alternatives.add_all.Given as goal

abbrev pub invariant-more : goal.invariant-more
invariant-more l = lists l.found.items ≡ lists l.fn.found.items ++ lists (take l.k l.more)
