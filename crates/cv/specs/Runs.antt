-- What a run over an accepted file leaves.
use Rattle.std.specs.Prelude.{◌≡◌, ◌≢◌, ℕ, List, length, Option, Some}
use Rattle.cv_syntax.specs.declared.work.File.{File}
use Rattle.cv_accept.specs.Accepted.{Content}
use Rattle.cv_costs.specs.Factors.{parameters_in}
use Rattle.cv_report.specs.declared.report.Report.{Report}
use Rattle.cv_report.specs.declared.report.Status.TheVariants as status
use Rattle.cv_follow.specs.Courses.{Course, IsCourse, lines_of, names_behind}
use Rattle.cv_follow.specs.Scripts.{is_without_block}
use Rattle.cv_report.specs.Printed.{is_shown}
use Rattle.cv_report.specs.Streams.{Streams}
use Rattle.cv_report.specs.declared.stream.Stream.{Stream}
use Rattle.cv.specs.Strategy.{MayHaveFile, Proceeds, file_in, steps_in}

-- The report has the file, which holds the same as before, with what comes of its queries or of its proof block along a course.
pub record HasRun (c : Content) (f : File) (r : Report) (k : Course) : Type 0 where
  pub file : r.file ≡ Some f
  pub content : file_in r f (length c.names) ≡ c
  pub course : IsCourse (is_without_block c.script) c.declarations c.own c.game c.names k
  pub drawn : r.status ≢ status.Memory → r.work.names ≡ names_behind c.names k.tables
  pub proceeds : Proceeds r f k (steps_in r)
  pub status : MayHaveFile r.status

-- So it is, and so much of the lines of this course was put, where the parameters have this order.
pub record Runs (c : Content) (f : File) (order : List ℕ) (before now : Option (List ℕ)) (old new : ℕ) (s : Stream) (r : Report) : Type 0 where
  pub course : Course
  pub has : HasRun c f r course
  pub ordered : parameters_in r.work.decls.list ≡ order
  pub streams : Streams (is_shown r) (lines_of c.names order c.game course) before now old new s
