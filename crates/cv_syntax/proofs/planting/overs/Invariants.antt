use Rattle.std.proofs.Common.{◌≡◌, ◌+◌, drop}
use Rattle.cv_syntax.specs.Planting.{overs}
use Rattle.cv_syntax.proofs.planting.overs.Given as goal

abbrev pub invariant-loop-make : goal.invariant-loop-make
invariant-loop-make l = l.count + overs (drop l.make-index l.makes) ≡ overs l.makes
