use Rattle.std.proofs.Common.{◌≡◌, take, flat_map}
use Rattle.cv_bound.specs.Sums.{counted}
use Rattle.cv_bound.proofs.terms.collision_terms.Given as goal

abbrev pub invariant-collisions : goal.invariant-collisions
invariant-collisions l = l.terms.items ≡ flat_map (counted l.secrecy) (take l.k l.collisions)
