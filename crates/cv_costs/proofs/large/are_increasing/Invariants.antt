use Rattle.std.proofs.Common.{◌≡◌, drop}
use Rattle.cv_costs.specs.Large.{are_increasing, is_below}
use Rattle.cv_costs.proofs.large.are_increasing.Given as goal

abbrev pub invariant-places : goal.invariant-places
invariant-places l = is_below l.last (drop l.k l.places) ≡ are_increasing l.places
