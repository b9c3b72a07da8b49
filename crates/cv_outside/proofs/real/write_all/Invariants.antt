use Rattle.std.proofs.Common.{◌-◌, ◌≤◌, length}
use Rattle.cv_outside.proofs.real.write_all.Given as goal

abbrev pub invariant-pieces : goal.invariant-pieces
invariant-pieces g l = l.done ≤ length l.text

abbrev pub decreases-pieces : goal.decreases-pieces
decreases-pieces g l = length l.text - l.done
