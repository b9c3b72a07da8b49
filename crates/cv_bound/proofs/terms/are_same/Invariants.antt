use Rattle.std.proofs.Common.{◌≡◌, drop}
use Rattle.cv_bound.specs.Sums.{same_factors}
use Rattle.cv_bound.proofs.terms.are_same.Given as goal

abbrev pub invariant-factors : goal.invariant-factors
invariant-factors l = same_factors (drop l.k l.left) (drop l.k l.right) ≡ same_factors l.left l.right
