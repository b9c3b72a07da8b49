use Rattle.std.proofs.Common.{◌≡◌, drop}
use Rattle.cv_meaning.specs.Terms.{found_in, or_zero}
use Rattle.cv_edit_names.proofs.naming.name_at.Given as goal

abbrev pub invariant-places : goal.invariant-places
invariant-places l = or_zero (found_in (drop l.named-index l.naming.places.now) l.place) ≡ or_zero (found_in l.naming.places.now l.place)
