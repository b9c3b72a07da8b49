use Rattle.std.proofs.Common.{◌≡◌, ◌+◌, ◌-◌, length}
use Rattle.std.specs.Prelude.{slice_range}
use Rattle.cv_library.specs.Written.{Adds}
use Rattle.cv_library.proofs.put.put_range.Given as goal

abbrev pub invariant-range : goal.invariant-range
invariant-range l = record { adds : Adds l.fn.out (slice_range l.tokens l.from l.k) l.out; len : length l.out ≡ length l.fn.out + (l.k - l.from) }
