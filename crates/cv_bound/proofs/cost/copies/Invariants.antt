use Rattle.std.proofs.Common.{◌≡◌, take}
use Rattle.cv_bound.proofs.cost.copies.Given as goal

abbrev pub invariant-collisions : goal.invariant-collisions
invariant-collisions l = l.copy.items ≡ take l.k l.collisions
