use Rattle.std.proofs.Common.{◌≡◌, length}
use Rattle.cv_typing.specs.Tables.{above_of, restored}
use Rattle.cv_typing.proofs.above.unbind.Given as goal

abbrev pub invariant-bound : goal.invariant-bound
invariant-bound l = restored (above_of l.above) l.bound.items ≡ restored (above_of l.fn.above) l.fn.bound.items

abbrev pub decreases-bound : goal.decreases-bound
decreases-bound l = length l.bound.items
