use Rattle.cv_alone.proofs.Spacing.{IsErased}
use Rattle.cv_alone.proofs.spaces.erase.Given as goal

abbrev pub invariant-bytes : goal.invariant-bytes
invariant-bytes l = IsErased l.fn.bytes l.bytes l.byte-index
