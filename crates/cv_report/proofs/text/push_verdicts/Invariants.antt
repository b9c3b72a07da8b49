use Rattle.std.proofs.Common.{◌≡◌, ◌+◌, ◌++◌, drop}
use Rattle.cv_report.specs.Text.{verdicts_text}
use Rattle.cv_report.proofs.text.push_verdicts.Given as goal

abbrev pub invariant-verdicts : goal.invariant-verdicts
invariant-verdicts l = l.out.items ++ verdicts_text l.names (l.k + 1) (drop l.k l.verdicts) ≡ l.fn.out.items ++ verdicts_text l.names 1 l.verdicts
