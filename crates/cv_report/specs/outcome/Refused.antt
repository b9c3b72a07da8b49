-- What a report says that ended before its steps did.
use Rattle.std.specs.Prelude.{◌≡◌, [], None}
use Rattle.cv_report.specs.declared.report.Report.{Report}
use Rattle.cv_report.specs.declared.report.Status.TheVariants as status

-- There are no verdicts and no proof block.
pub record SaysNothing (r : Report) : Type 0 where
  pub verdicts : r.verdicts.items ≡ []
  pub script : r.script ≡ None

-- The report of a run that memory ran out in, which has no verdicts; all else is as in this one.
pub record SaysMemory (old new : Report) : Type 0 where
  pub status : new.status ≡ status.Memory
  pub verdicts : new.verdicts.items ≡ []
  pub command : new.command ≡ old.command
  pub work : new.work ≡ old.work
  pub file : new.file ≡ old.file
  pub script : new.script ≡ old.script
