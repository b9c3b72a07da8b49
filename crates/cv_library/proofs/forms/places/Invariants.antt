use Rattle.std.proofs.Common.{◌-◌, length}
use Rattle.cv_library.proofs.Placing.{AreFound}
use Rattle.cv_library.proofs.forms.places.Given as goal

abbrev pub invariant-definitions : goal.invariant-definitions
invariant-definitions l = AreFound l.tokens l.found.items l.at

abbrev pub decreases-definitions : goal.decreases-definitions
decreases-definitions l = length l.tokens - l.at
