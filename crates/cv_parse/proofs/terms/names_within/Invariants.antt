use Rattle.std.proofs.Common.{◌≡◌, take}
use Rattle.cv_parse.specs.Terms.{names_within}
use Rattle.cv_parse.proofs.terms.names_within.Given as goal

abbrev pub invariant-signs : goal.invariant-signs
invariant-signs l = l.names ≡ names_within l.known (take l.k l.signs)
