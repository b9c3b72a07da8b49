use Rattle.std.proofs.Common.{◌≡◌, ◌≤◌, ◌++◌, suc, drop, length}
use Rattle.cv_bound.specs.closings.Queries.{sum_in}
use Rattle.cv_syntax.specs.Classes.{queries}
use Rattle.cv_report.specs.verdicts.Verdicts.{verdicts_by}
use Rattle.cv_report.proofs.verdicts.verdicts.verdicts_of.Given as goal

abbrev pub invariant-decls : goal.invariant-decls
invariant-decls l = record {
  verdicts : l.verdicts.items ++ verdicts_by (sum_in l.closed) (suc l.number) (queries (drop l.k l.decls.list)) ≡ verdicts_by (sum_in l.closed) 1 (queries l.decls.list);
  number : l.number ≤ l.k;
  few : length l.verdicts.items ≤ l.k;
}
