-- What of a report is written, and how the run ends then.
use Rattle.std.specs.Prelude.{◌≡◌, ◌≢◌, ℕ, ◌⊎◌, List, Option}
use Rattle.cv_outside.specs.Causes.{Rose}
use Rattle.cv_report.specs.declared.report.Report.{Report}
use Rattle.cv_report.specs.declared.report.Status.{Status}
use Rattle.cv_report.specs.declared.report.Status.TheVariants as status
use Rattle.cv_report.specs.Lines.{Lines}
use Rattle.cv_report.specs.Printed.{printed}
use Rattle.cv_report.specs.Writing.{TakesAll, TakesFront}

-- how a run ends whose report can't be written to its end: want of memory merges with nothing
abbrev pub unwritten : Status → Status
unwritten status.Memory = status.Memory
unwritten s = status.Write

-- A front of the text of a report with these lines was taken, and all of it where the run ends by neither Write nor Memory.
pub record IsWritten (before after : Option (List ℕ)) (s : Status) (r : Report) (l : Lines) : Type 0 where
  pub front : TakesFront before after (printed r l)
  pub all : s ≢ status.Write → s ≢ status.Memory → TakesAll before after (printed r l)

-- A run ends by its report's status. A fault of the sink makes Write of any status but Memory.
pub record EndsBy (before after : ℕ) (s : Status) (r : Report) : Type 0 where
  pub either : (s ≡ r.status) ⊎ (s ≡ status.Write)
  pub write : s ≡ status.Write → Rose before after
  pub memory : r.status ≡ status.Memory → s ≡ status.Memory
