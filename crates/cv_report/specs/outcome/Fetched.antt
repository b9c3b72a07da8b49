-- How a run ends where its file isn't fetched.
use Rattle.cv_outside.specs.declared.shelf.FetchError.{FetchError}
use Rattle.cv_outside.specs.declared.shelf.FetchError.TheVariants as fetch
use Rattle.cv_report.specs.declared.report.Status.{Status}
use Rattle.cv_report.specs.declared.report.Status.TheVariants as status
use Rattle.cv_report.specs.declared.report.Which.TheVariants.{File}

abbrev pub fetch_ended : FetchError → Status
fetch_ended fetch.Failed = status.Read
fetch_ended fetch.Long = status.Limit File
fetch_ended fetch.OutOfMemory = status.Memory
