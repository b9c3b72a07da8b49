use Rattle.std.proofs.Common.{◌≤◌, length}
use Rattle.cv_library.proofs.Tabling.{AreNamed}
use Rattle.cv_library.proofs.names.names.Given as goal

abbrev pub invariant-places : goal.invariant-places
invariant-places l = record { read : AreNamed l.tokens l.places l.names l.place-index; few : length l.names ≤ l.place-index }
