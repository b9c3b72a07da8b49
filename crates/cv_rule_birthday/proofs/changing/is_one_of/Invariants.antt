use Rattle.std.proofs.Common.{◌≡◌, drop}
use Rattle.cv_rule_birthday.specs.Comparing as comparing
use Rattle.cv_rule_birthday.proofs.changing.is_one_of.Given as goal

abbrev pub invariant-places : goal.invariant-places
invariant-places l = record {
  same : comparing.is_one_of (drop l.k l.places) l.place ≡ comparing.is_one_of l.places l.place;
}
