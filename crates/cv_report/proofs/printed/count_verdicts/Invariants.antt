use Rattle.std.proofs.Common.{◌≡◌, drop}
use Rattle.cv_report.specs.Printed.{counted}
use Rattle.cv_report.proofs.printed.count_verdicts.Given as goal

abbrev pub invariant-verdicts : goal.invariant-verdicts
invariant-verdicts l = counted l.counts (drop l.k l.verdicts) ≡ counted (0, 0) l.verdicts
