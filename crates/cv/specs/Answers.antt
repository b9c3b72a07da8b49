-- What a report says of a file and its library.
use Rattle.std.specs.Prelude.{◌≡◌, ◌≢◌, ℕ, ◌⊎◌, false, List, [], take, Option, Some, None, IfSome, IsSome, MatchOption}
use Rattle.cv_accept.specs.Accepted.{IsFile}
use Rattle.cv_library.specs.Givens.{Given}
use Rattle.cv_report.specs.declared.report.Command.{Command}
use Rattle.cv_report.specs.declared.report.Command.TheVariants as command
use Rattle.cv_report.specs.declared.report.Report.{Report}
use Rattle.cv_report.specs.declared.report.Status.{Status}
use Rattle.cv_report.specs.declared.report.Status.TheVariants as status
use Rattle.cv_report.specs.declared.report.Which.TheVariants.{File as FileLimit}
use Rattle.cv_accept.specs.Accepted.{most_pool}
use Rattle.cv_costs.specs.Factors.{parameters_in}
use Rattle.cv_follow.specs.Courses.{Course, IsCourse, Table, lines_of, names_behind}
use Rattle.cv_follow.specs.Scripts.{is_without_block}
use Rattle.cv_report.specs.Lines.{Lines}
use Rattle.cv_report.specs.Printed.{is_shown}
use Rattle.cv_report.specs.Streams.{Streams}
use Rattle.cv_report.specs.declared.flow.Flow.TheVariants.{Going}
use Rattle.cv_report.specs.declared.stream.Stream.{Stream}
use Rattle.cv_report.specs.outcome.Refused.{SaysNothing}
use Rattle.cv_report.specs.outcome.Written.{IsWritten}
use Rattle.cv_syntax.specs.declared.work.File.{File}
use Rattle.cv_syntax_trees.specs.Tree.{Empty}
use Rattle.cv.specs.Words.{AreTold, IsLong, IsShort}
use Rattle.cv.specs.Calls.{AreBoundedCalls}
use Rattle.cv.specs.Causes.{ComesFrom, Outside}
use Rattle.cv.specs.Games.{AreClose}
use Rattle.cv.specs.Steps.{AreCloseSteps}
use Rattle.cv.specs.Strategy.{HasFile, HoldsAlong, Judged, MayHaveFile, Proceeds, SpeaksOfFile, declared_in, file_in, game_in, steps_in}

-- The names that a report's file has are these.
abbrev pub names_in : Report → (count : ℕ) → Table
names_in r count = take count r.work.names

-- There is a source, the one that the shelf tells where it tells any, with no more bytes than a file may have and as few in the library if
-- it has one, of which a report's file is the reading, with so many of the report's names; those behind them were drawn along its course.
-- Its steps, verdicts and status are those of its proof block, or those that were found where it has none; `games` applies no strategy.
-- Without a file there are none. A status that speaks of a file is one that the source calls for; where `games` is done there is one.
pub record Answers (told : Option Given) (r : Report) (c : Course) : Type 0 where
  pub source : Given
  pub agree : AreTold told source
  pub short : IsSome r.file → IsShort source
  pub names : ℕ
  pub file : IfSome r.file (λ f. IsFile most_pool source (file_in r f names))
  pub course : IfSome r.file (λ f. IsCourse (is_without_block (steps_in r)) (declared_in r) r.work.decls.own (game_in r f) (names_in r names) c)
  pub drawn : IsSome r.file → r.status ≢ status.Memory → r.work.names ≡ names_behind (names_in r names) c.tables
  pub follows : MatchOption r.file (SaysNothing r) (λ f. Proceeds r f c (steps_in r))
  pub given : HasFile r.status → IsSome r.file
  pub only : IsSome r.file → MayHaveFile r.status
  pub shown : r.command ≡ command.Games → r.status ≡ status.Done → IsSome r.file
  pub judged : SpeaksOfFile r.status → Judged r.command r.status source

-- the lines of games and steps that a report has along a course, if it has a file

abbrev pub lines_by : Report → (names : ℕ) → Course → Option File → Lines
lines_by r names c None = lines_of [] [] Empty c
lines_by r names c (Some f) = lines_of (names_in r names) (parameters_in r.work.decls.list) (game_in r f) c

abbrev pub lines_along : Report → (names : ℕ) → Course → Lines
lines_along r names c = lines_by r names c r.file

-- What is said and written of a run. There is a course; where the report has a file, along this course
--   headline: what is called proved holds, for all meanings that satisfy the declarations, and all adversaries;
--   games: no adversary tells a game from the first by more than the costs of the steps between, with the advantages of the contexts of the
--     cryptographic ones;
--   steps: nor from the one before it by more than the cost of its own step; without a cost both have one chance, and those of a
--     cryptographic step have the chances of its context with the left and with the right side;
--   calls: the line of a context bounds its runs, whoever plays and whichever side answers.
-- The report's answers are those along this course, its status comes from it, and its lines were put with what is printed behind them, or a
-- front of all that.
pub record Says (o : Outside) (before after : Option (List ℕ)) (s : Status) (r : Report) : Type 0 where
  pub course : Course
  pub headline : IfSome r.file (λ f. HoldsAlong r f course)
  pub games : IfSome r.file (λ f. AreClose r f course)
  pub steps : IfSome r.file (λ f. AreCloseSteps r f course)
  pub calls : IfSome r.file (λ f. AreBoundedCalls r f course)
  pub answers : Answers o.told r course
  pub cause : ComesFrom o r course r.status
  pub written : IsWritten before after s r (lines_along r answers.names course)

-- a stream that puts nothing
pub record IsSilent (s : Stream) : Type 0 where
  pub shows : s.shows ≡ false
  pub flow : s.flow ≡ Going
  pub steps : s.steps ≡ 0
  pub game : s.game ≡ 2

-- So it is of a run before what is left of its report is put: so much of the lines was put.
pub record Begins (o : Outside) (before now : Option (List ℕ)) (old new : ℕ) (s : Stream) (r : Report) : Type 0 where
  pub course : Course
  pub answers : Answers o.told r course
  pub cause : ComesFrom o r course r.status
  pub streams : Streams (is_shown r) (lines_along r answers.names course) before now old new s

-- What a source calls for under a command is said, unless memory ran out.
pub record IsComplete (c : Command) (source : Given) (s : Status) : Type 0 where
  pub short : IsShort source → Judged c s source
  pub long : IsLong source → (s ≡ status.Limit FileLimit) ⊎ (s ≡ status.Memory)
