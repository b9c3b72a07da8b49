use Rattle.std.proofs.Common.{◌≡◌, ◌++◌, take, flat_map}
use Rattle.cv_report.specs.Text.{alone_text}
use Rattle.cv_report.proofs.text.push_each_alone.Given as goal

abbrev pub invariant-verdicts : goal.invariant-verdicts
invariant-verdicts l = l.out.items ≡ l.fn.out.items ++ flat_map (alone_text l.names l.number) (take l.k l.verdicts)
