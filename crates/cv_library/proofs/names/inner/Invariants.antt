use Rattle.std.proofs.Common.{◌≡◌, ◌+◌}
use Rattle.std.specs.Prelude.{slice_range}
use Rattle.cv_library.specs.Libraries.{inner_from, tokens_at}
use Rattle.cv_library.proofs.names.inner.Given as goal

abbrev pub invariant-body : goal.invariant-body
invariant-body l = inner_from l.k (slice_range l.tokens l.k l.fn.place.end) ≡ inner_from (l.fn.place.brace + 1) (tokens_at l.tokens l.fn.place)
