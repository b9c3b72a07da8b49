use Rattle.std.proofs.Common.{◌≡◌, drop}
use Rattle.cv_match_terms.specs.heads.Beginnings.{has_code}
use Rattle.cv_match_terms.proofs.heads.heads.has_code.Given as goal

abbrev pub invariant-loop-other : goal.invariant-loop-other
invariant-loop-other l = has_code l.code (drop l.other-index l.codes) ≡ has_code l.code l.codes
