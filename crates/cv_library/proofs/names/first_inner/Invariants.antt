use Rattle.std.proofs.Common.{◌≡◌, drop}
use Rattle.cv_library.specs.Libraries.{first_inner}
use Rattle.cv_library.proofs.names.first_inner.Given as goal

abbrev pub invariant-places : goal.invariant-places
invariant-places l = first_inner l.tokens (drop l.place-index l.places) ≡ first_inner l.tokens l.places
