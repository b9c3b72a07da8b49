use Rattle.std.proofs.Common.{◌≡◌, take}
use Rattle.cv_bound.proofs.terms.copies.Given as goal

abbrev pub invariant-terms : goal.invariant-terms
invariant-terms l = l.copy.items ≡ take l.k l.terms
