-- How far a script was followed.
use Rattle.std.specs.Prelude.{◌≡◌, ℕ, ◌+◌, Bool, false, List, [], ◌++◌, length, map, take, Option, Some, None}
use Rattle.cv_kernel.specs.declared.error.PushError.{PushError}
use Rattle.cv_kernel.specs.declared.error.PushError.TheVariants as push
use Rattle.cv_kernel.specs.declared.sequence.Sequence.{Sequence}
use Rattle.cv_kernel.specs.Closings.{Closing}
use Rattle.cv_kernel.specs.Followed.{HasFollowed, known_to}
use Rattle.cv_kernel.specs.Proofs.{closed_by, nodes_along}
use Rattle.cv_kernel.specs.Sequences as kernel
use Rattle.cv_kernel.specs.Drawings.{told}
use Rattle.cv_pool.specs.PoolView.{Grows}
use Rattle.cv_steps.specs.Sequences.{scene}
use Rattle.cv_bound.specs.declared.terms.Term.{Term}
use Rattle.cv_pool.specs.declared.node.NodeId.{NodeId}
use Rattle.cv_report.specs.verdicts.Verdicts.{verdicts_by}
use Rattle.cv_report.specs.declared.report.Cause.TheVariants.{StepRefused}
use Rattle.cv_report.specs.declared.report.Status.{Status}
use Rattle.cv_report.specs.declared.report.Status.TheVariants as status
use Rattle.cv_report.specs.declared.report.Which.TheVariants.{Depth, Nodes, Pool, Steps}
use Rattle.cv_syntax.specs.declared.work.BuildError.TheVariants as build
use Rattle.cv_syntax.specs.Declarations.{declarations}
use Rattle.cv_syntax.specs.declared.work.Game.{Game}
use Rattle.cv_syntax.specs.declared.work.Work.{Work}
use Rattle.cv_syntax_trees.specs.Declarations.{Declaration}
use Rattle.cv_syntax_trees.specs.Tree.{Tree}
use Rattle.cv_follow.specs.declared.walk.Walk.{Walk}
use Rattle.cv_follow.specs.Courses.{Course, DrawsThrough, IsReached, Table, names_behind}
use Rattle.cv_follow.specs.Scripts.{EndsScript, verdicts_of}

-- how a run ends whose next step isn't accepted, behind so many; want of memory is no end of these
abbrev pub stop_of : PushError → (count : ℕ) → Option Status
stop_of (push.Refused f) count = Some (status.Open (StepRefused (count + 1) f.condition f.place))
stop_of push.Steps count = Some (status.Limit Steps)
stop_of (push.Build (build.Nodes nodes)) count = Some (status.Limit (Nodes nodes))
stop_of (push.Build (build.Depth depth)) count = Some (status.Limit (Depth depth))
stop_of (push.Build (build.Full need)) count = Some (status.Limit (Pool need))
stop_of (push.Build build.OutOfMemory) count = None

-- what was found or followed so far, since a work: the sequence and the table of names have it; free steps stand in no proof block
pub record HasGone (free : Bool) (before : ℕ) (start now : Work) (first : Tree) (front : List Tree) (s : Sequence) : Type 0 where
  pub followed : HasFollowed before (declarations start.pool.trees start.decls.list) start.decls.own first front now.pool.trees s
  pub tables : List Table
  pub drawn : DrawsThrough free (declarations start.pool.trees start.decls.list) (known_to start.decls.own) start.decls.own first (map told followed.proof) start.names tables
  pub last : now.names ≡ names_behind start.names tables
  pub grows : Grows start.pool now.pool
  pub names : take (length start.names) now.names ≡ start.names
  pub decls : now.decls ≡ start.decls

-- its course
abbrev pub course_of : {free : Bool} {before : ℕ} {start now : Work} {first : Tree} {front : List Tree} {s : Sequence} → HasGone free before start now first front s → Course
course_of {free} {before} {start} {now} {first} {front} {s} h = record { proof = h.followed.proof; last = kernel.game_in now.pool.trees s; tables = h.tables }

-- while a script is followed: the steps in front were gone through, and the lines of their course were put
pub record IsFollowing (before : ℕ) (start now : Work) (first : Tree) (front : List Tree) (s : Sequence) (Puts : Course → Type 0) : Type 0 where
  pub gone : HasGone false before start now first front s
  pub puts : Puts (course_of gone)

-- the end of a script that was followed along a course
pub record EndsAlong (taken : ℕ) (ds : List Declaration) (own : ℕ) (first : Tree) (steps queries : List Tree) (c : Course) (end : Status) : Type 0 where
  pub left : List Tree
  pub split : steps ≡ map (λ t. t.step) c.proof ++ left
  pub ends : EndsScript (taken + nodes_along ds (known_to own) first c.proof) (length c.proof) (scene ds (known_to own) c.last) (closed_by c.proof) queries left end

-- Memory ran out, and there are no verdicts; or the walk ends so, with the verdicts of its course, and the table has its names.
pub data HasStopped (names : Table) (now : Work) (queries : List Tree) (c : Course) (Ends : Status → Type 0) (w : Walk) : Type 0 where
  out_of_memory : w.status ≡ status.Memory → w.verdicts.items ≡ [] → HasStopped names now queries c Ends w
  with_verdicts : Ends w.status → w.verdicts.items ≡ verdicts_of c.proof queries → now.names ≡ names_behind names c.tables → HasStopped names now queries c Ends w

-- so it is of a walk whose closed queries have these sums
pub data IsStopped (sums : ℕ → Option (List Term)) (queries : List NodeId) (end : Status) (w : Walk) : Type 0 where
  out_of_memory : w.status ≡ status.Memory → w.verdicts.items ≡ [] → IsStopped sums queries end w
  with_verdicts : w.status ≡ end → w.verdicts.items ≡ verdicts_by sums 1 queries → IsStopped sums queries end w

-- the script was followed as far as this
pub record IsWalk (before : ℕ) (start now : Work) (first : Tree) (steps queries : List Tree) (Puts : Course → Type 0) (w : Walk) : Type 0 where
  pub reached : IsReached false start now first Puts
  pub outcome : HasStopped start.names now queries reached.course (EndsAlong before (declarations start.pool.trees start.decls.list) start.decls.own first steps queries reached.course) w

-- the game that an accepted step leads to: one that closes a query leads to none of its own
abbrev pub next_of : Option Closing → Game → Option Game
next_of None g = Some g
next_of (Some c) g = None
