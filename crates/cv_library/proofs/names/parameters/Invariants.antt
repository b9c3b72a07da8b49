use Rattle.std.proofs.Common.{◌≤◌, length}
use Rattle.cv_library.proofs.Tabling.{AreRead}
use Rattle.cv_library.proofs.names.parameters.Given as goal

abbrev pub invariant-list : goal.invariant-list
invariant-list l = record { read : AreRead l.tokens l.place l.names l.i l.count; few : length l.names ≤ l.i }
