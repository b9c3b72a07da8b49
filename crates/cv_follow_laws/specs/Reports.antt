-- What the clauses of a run say of its report on a proof, where it has a file: the source that the file is the reading of, the course and the
-- verdicts, and the names that were drawn. Under `games` a run ends otherwise, as where memory runs out. This profile's own.
use Rattle.std.specs.Prelude.{◌≡◌, ◌≢◌, ℕ, true, false, List, ◌++◌, length, map, take, Option, Some, None}
use Rattle.cv_library.specs.Givens.{Given}
use Rattle.cv_syntax.specs.PoolTrees.{tree_at}
use Rattle.cv_syntax.specs.declared.work.File.{File}
use Rattle.cv_syntax_trees.specs.Tree.{Tree}
use Rattle.cv_meaning.specs.Queries.{queries_in}
use Rattle.cv_accept.specs.Accepted.{Content, IsFile, most_pool}
use Rattle.cv_accept.specs.Works.{content_in, script_in}
use Rattle.cv_costs.specs.Factors.{parameters_in}
use Rattle.cv_report.specs.declared.report.Cause.TheVariants.{StepRefused}
use Rattle.cv_report.specs.declared.report.Command.{Command}
use Rattle.cv_report.specs.declared.report.Command.TheVariants.{Prove}
use Rattle.cv_report.specs.declared.report.Report.{Report}
use Rattle.cv_report.specs.declared.report.Status.{Status}
use Rattle.cv_report.specs.declared.report.Status.TheVariants as status
use Rattle.cv_report.specs.declared.report.Which.TheVariants.{Depth, Nodes}
use Rattle.cv_report.specs.Lines.{lines_text}
use Rattle.cv_report.specs.Text.{end_text, verdicts_asked}
use Rattle.cv_follow.specs.Courses.{Course, IsCourse, lines_of, names_behind}
use Rattle.cv_follow.specs.Scripts.{is_without_block, verdicts_of}
use Rattle.cv_follow.specs.Fillings.{StandsFor, has_word}
use Rattle.cv_follow.specs.Walks.{EndsAlong}

-- what a report's file holds, with so many of the report's names: those behind them were drawn
abbrev pub file_in : Report → File → (names : ℕ) → Content
file_in r f n = content_in (take n r.work.names) r.work.decls.own r.work.pool.trees r.work.decls.list f.game.root r.script

-- the steps of the proof block, with those that were found in the place of the word, were followed as far as they are accepted
pub record FollowsScript (r : Report) (c : Content) (script : List Tree) (k : Course) : Type 0 where
  pub nodes : ℕ  -- how many nodes the pool had before
  pub room : ℕ  -- with those of what was proposed
  pub steps : List Tree
  pub stands : StandsFor nodes script steps room
  pub ends : EndsAlong room c.declarations c.own c.game steps (queries_in c.declarations) k r.status

-- without a proof block the steps were found, and nothing more is asked
abbrev pub Proceeds : Report → Content → Course → Option (List Tree) → Type 0
Proceeds r c k None = Unit {0}
Proceeds r c k (Some script) = FollowsScript r c script k

-- The report has this file, which is the reading of this source with so many of its names, and goes on as a run does, along a course.
pub record IsReportOf (source : Given) (r : Report) (f : File) : Type 0 where
  pub there : r.file ≡ Some f
  pub names : ℕ
  pub file : IsFile most_pool source (file_in r f names)
  pub course : Course
  pub is : IsCourse (is_without_block (file_in r f names).script) (file_in r f names).declarations r.work.decls.own (file_in r f names).game (take names r.work.names) course
  pub drawn : r.work.names ≡ names_behind (take names r.work.names) course.tables
  pub verdicts : r.verdicts.items ≡ verdicts_of course.proof (queries_in (file_in r f names).declarations)
  pub follows : Proceeds r (file_in r f names) course (file_in r f names).script

-- the query that a command asks for alone
abbrev pub query_in : Command → Option ℕ
query_in (Prove moves more query) = query
query_in c = None

-- the text of a report along a course, but for the last line
abbrev pub body_text : Report → File → (names : ℕ) → Course → List ℕ
body_text r f n k =
    lines_text (lines_of (take n r.work.names) (parameters_in r.work.decls.list) (tree_at r.work.pool.trees (Some f.game.root)) k)
    ++ verdicts_asked r.work.names (query_in r.command) r.verdicts.items

-- its whole text
abbrev pub text_of : Report → File → (names : ℕ) → Course → List ℕ
text_of r f n k = body_text r f n k ++ end_text r.status

-- steps were found: there is no proof block, or it has the word

abbrev pub AreFound : Option (List Tree) → Type 0
AreFound None = Unit {0}
AreFound (Some script) = has_word script ≡ true

abbrev pub block_of : Report → Option (List Tree)
block_of r = script_in r.work.pool.trees r.script

-- The steps of a report's course are the first of those of another's. Where none were found nothing is asked, as they are the front of the
-- proof block.
abbrev pub AreFront : Report → (c d : Course) → Type 0
AreFront r c d = AreFound (block_of r) → map (λ t. t.step) c.proof ≡ take (length c.proof) (map (λ t. t.step) d.proof)

-- there is a proof block, and it doesn't have the word

abbrev pub IsPlain : Option (List Tree) → Type 0
IsPlain None = ⊥
IsPlain (Some script) = has_word script ≡ false

-- The run ended by the verdicts on its queries, by the end of the proof block, by a limit of a game, or by a condition of a step other than
-- 9: that of the game which a step leads to. Its other ends depend on the names that are drawn for this game, on the room of a pool, or on
-- how many steps were taken.
abbrev pub IsSettled : Status → Type 0
IsSettled status.Proved = Unit {0}
IsSettled (status.Open (StepRefused step condition place)) = condition ≢ 9
IsSettled (status.Open cause) = Unit {0}
IsSettled (status.Limit (Nodes count)) = Unit {0}
IsSettled (status.Limit (Depth depth)) = Unit {0}
IsSettled s = ⊥
