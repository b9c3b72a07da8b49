use Rattle.std.proofs.Common.{◌≡◌, ◌++◌, length}
use Rattle.cv_syntax.specs.parts.Closing.{closing}
use Rattle.cv_syntax.proofs.parts.trees.close.Given as goal

abbrev pub invariant-heads : goal.invariant-heads
invariant-heads l = l.makes.items ++ closing l.open.items ≡ l.fn.makes.items ++ closing l.fn.heads.items

abbrev pub decreases-heads : goal.decreases-heads
decreases-heads l = length l.open.items
