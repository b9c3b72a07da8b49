-- Exit codes.
use Rattle.std.specs.Prelude.{ℕ}
use Rattle.cv_report.specs.declared.report.Status.{Status}
use Rattle.cv_report.specs.declared.report.Status.TheVariants as status

abbrev pub code_of : Status → ℕ
code_of status.Proved = 0
code_of status.Done = 0
code_of (status.Open cause) = 1
code_of (status.FileRefused fault) = 2
code_of status.Words = 3
code_of status.Read = 4
code_of status.Write = 5
code_of status.Memory = 6
code_of (status.Limit which) = 7
