-- What is found in place of a proof block: a strategy that nothing trusts proposes steps one after another, and those that are accepted
-- are taken. What is said of them is said as of the steps of a script. This profile's own.
use Rattle.std.specs.Prelude.{◌≡◌, ℕ, suc, ◌+◌, ◌<◌, ◌≤◌, nat_lt, Bool, true, false, if◌then◌else◌, All, List, [], ◌∷◌, ◌++◌, length, map, take, Option, Some, None}
use Rattle.cv_accept.specs.Accepted.{most_pool}
use Rattle.cv_rule_array_names.specs.Drawings.{DrawsBefore}
use Rattle.cv_kernel.specs.Proofs.{IsProof, Transition, closed_by}
use Rattle.cv_kernel.specs.Keeping.{StaysUpTo}
use Rattle.cv_kernel.specs.Sequences.{Same, SameBehind, Stands, game_in}
use Rattle.cv_kernel.specs.declared.error.PushError.{PushError}
use Rattle.cv_kernel.specs.declared.error.PushError.TheVariants as push
use Rattle.cv_kernel.specs.declared.sequence.Sequence.{Sequence}
use Rattle.cv_kernel_crypto.specs.Applied.{HasEquivalences}
use Rattle.cv_meaning.specs.Queries.{queries_in}
use Rattle.cv_parse.specs.Declaring.{IsBelow}
use Rattle.cv_pool.specs.declared.node.NodeId.{NodeId}
use Rattle.cv_pool.specs.PoolView.{PoolView, Grows}
use Rattle.cv_report.specs.declared.report.Cause.TheVariants.{Moves, Stuck}
use Rattle.cv_report.specs.declared.report.Status.{Status}
use Rattle.cv_report.specs.declared.report.Status.TheVariants as status
use Rattle.cv_report.specs.declared.report.Which.{Which}
use Rattle.cv_report.specs.declared.report.Which.TheVariants.{Depth, Nodes, Pool, Steps}
use Rattle.cv_report.specs.Lines.{Leg}
use Rattle.cv_report.specs.Streams.{PutsLeg}
use Rattle.cv_report.specs.declared.stream.Stream.{Stream}
use Rattle.cv_scene.specs.Scenes.{Scene}
use Rattle.cv_scene_view.specs.Kept.{scene_of}
use Rattle.cv_script.specs.Views.{StepItems}
use Rattle.cv_steps.specs.Sequences.{scene}
use Rattle.cv_syntax.specs.declared.work.BuildError.TheVariants as build
use Rattle.cv_syntax.specs.declared.work.Work.{Work}
use Rattle.cv_syntax.specs.Declarations.{declarations}
use Rattle.cv_syntax.specs.PoolTrees.{tree_at}
use Rattle.cv_syntax_trees.specs.Declarations.{Declaration}
use Rattle.cv_syntax_trees.specs.Tree.{Tree}
use Rattle.cv_moves.specs.Moves.{AreMoves, is_move, moves_more}
use Rattle.cv_follow.specs.declared.searching.Ending.{Ending}
use Rattle.cv_follow.specs.declared.searching.Ending.TheVariants.{Exhausted, Stopped}
use Rattle.cv_follow.specs.declared.searching.Tried.{Tried}
use Rattle.cv_follow.specs.declared.searching.Tried.TheVariants.{Accepted, Nothing, Passed, Refused}
use Rattle.cv_follow.specs.declared.walk.Walk.{Walk}
use Rattle.cv_follow.specs.Courses.{Course, IsLegOf, IsReached, PutsNothing, PutsSome, leg_of}
use Rattle.cv_follow.specs.Scripts.{Stops, first_open}
use Rattle.cv_kernel.specs.Followed.{known_to}
use Rattle.cv_follow.specs.Walks.{HasGone, HasStopped, course_of}

-- how a search ends that has nothing more to propose, where so many moves are allowed and so many were made: all queries are closed, or
-- this one is open
abbrev pub end_of_search : (moves made : ℕ) → (unclosed : Option ℕ) → Status
end_of_search moves made None = status.Proved
end_of_search moves made (Some k) = if nat_lt made moves then status.Open Stuck else status.Open Moves

-- Why a search goes on no further before that, in a pool with so many nodes: the step that was proposed last passes a limit, or the pool
-- has no room for what is proposed.
pub data Passes (taken count : ℕ) (s : Scene) (closed : List ℕ) : Which → Type 0 where
  by_step : (which : Which) (next : Tree) → Stops taken count s closed next (status.Limit which) → Passes taken count s closed which
  by_room : (need : ℕ) → most_pool < taken + need → Passes taken count s closed (Pool need)

-- how a search ends that found these steps, of which so many were counted as moves
pub data EndsSearch (moves made taken : ℕ) (s : Scene) (found : List Tree) (closed : List ℕ) (queries : List Tree) : Status → Type 0 where
  without_more : EndsSearch moves made taken s found closed queries (end_of_search moves made (first_open closed 1 queries))
  by_limit : (which : Which) → Passes taken (length found) s closed which → EndsSearch moves made taken s found closed queries (status.Limit which)

-- Steps were found from a first game on: each is accepted in turn, and no more of them were counted as moves than are allowed. The pool
-- has so many nodes where the search ends.
pub record Finds (taken moves : ℕ) (ds : List Declaration) (own : ℕ) (first : Tree) (end : Status) : Type 0 where
  pub proof : List Transition
  pub last : Tree
  pub leads : IsProof ds (known_to own) first proof last
  pub made : ℕ
  pub counted : AreMoves (map (λ t. t.step) proof) made
  pub few : made ≤ moves
  pub ends : EndsSearch moves made taken (scene ds (known_to own) last) (map (λ t. t.step) proof) (closed_by proof) (queries_in ds) end

-- so it is along a course
pub record FindsAlong (taken moves : ℕ) (ds : List Declaration) (own : ℕ) (c : Course) (end : Status) : Type 0 where
  pub made : ℕ
  pub counted : AreMoves (map (λ t. t.step) c.proof) made
  pub few : made ≤ moves
  pub ends : EndsSearch moves made taken (scene ds (known_to own) c.last) (map (λ t. t.step) c.proof) (closed_by c.proof) (queries_in ds) end

-- what a search leaves
pub record HasSearched (start now : Work) (first : Tree) (moves : ℕ) (Puts : Course → Type 0) (w : Walk) : Type 0 where
  pub reached : IsReached true start now first Puts
  pub outcome : HasStopped start.names now (queries_in (declarations start.pool.trees start.decls.list)) reached.course (FindsAlong (length now.pool.trees) moves (declarations start.pool.trees start.decls.list) start.decls.own reached.course) w

-- A step may be tried: the last game of the sequence stands in the work, and nothing was looked up in it, so that the pool may grow.
pub record MayTry (w : Work) (s : Sequence) : Type 0 where
  pub stands : Stands w.pool.trees w.decls s
  pub empty : s.arrays ≡ None
  pub declared : All (IsBelow (length w.pool.trees)) w.decls.list
  pub equivalences : HasEquivalences (scene_of w.pool w.decls s.game.root)
  pub limit : w.pool.limit ≡ most_pool

-- what was found so far, since a work
pub record HasFound (free : Bool) (start now : Work) (first : Tree) (s : Sequence) : Type 0 where
  pub found : List Tree
  pub gone : HasGone free (length now.pool.trees) start now first found s

-- the pool and the table of names have grown, and the declarations stay
pub record HasGrown (old new : Work) : Type 0 where
  pub grows : Grows old.pool new.pool
  pub names : take (length old.names) new.names ≡ old.names
  pub decls : new.decls ≡ old.decls

-- A try that takes no step leaves the sequence, in whose game nothing is looked up, the names and the declarations; the pool may have grown.
pub record IsKept (old new : Work) (s t : Sequence) : Type 0 where
  pub grows : Grows old.pool new.pool
  pub names : new.names ≡ old.names
  pub decls : new.decls ≡ old.decls
  pub sequence : Same s t
  pub empty : t.arrays ≡ None

-- Behind steps that were found stands one more, at this node: the course has it, with what the sequence tells of it.
pub record IsMore (free : Bool) (start old new : Work) (first : Tree) (s t : Sequence) (h : HasFound free start old first s) (node : NodeId) : Type 0 where
  pub next : HasFound free start new first t
  pub live : node.0 < length new.pool.trees
  pub step : Transition
  pub tree : step.step ≡ tree_at new.pool.trees (Some node)
  pub put : next.found ≡ h.found ++ step.step ∷ []
  pub proof : next.gone.followed.proof ≡ h.gone.followed.proof ++ step ∷ []
  pub tables : next.gone.tables ≡ h.gone.tables ++ new.names ∷ []
  pub leg : IsLegOf new.names new.pool.trees t step.step (leg_of step new.names)
  pub again : MayTry new t

-- such a step is counted as a move only where one is allowed
pub record IsFoundMore (start old new : Work) (first : Tree) (allowed : Bool) (s t : Sequence) (h : HasFound true start old first s) (node : NodeId) (moved : Bool) : Type 0 where
  pub more : IsMore true start old new first s t h node
  pub advised : Bool
  pub told : moved ≡ is_move advised more.step.step
  pub may : moved ≡ true → allowed ≡ true

-- What came of a try, behind the steps that were found.
abbrev pub Comes : (start old new : Work) → (first : Tree) → (allowed : Bool) → (s t : Sequence) → HasFound true start old first s → Tried → Type 0
Comes start old new first allowed s t h (Accepted step moved) = IsFoundMore start old new first allowed s t h step.0 moved
Comes start old new first allowed s t h Refused = IsKept old new s t
Comes start old new first allowed s t h Nothing = IsKept old new s t
Comes start old new first allowed s t h (Passed which) =
    IsKept old new s t
    × Passes (length new.pool.trees) (length h.found) (scene (declarations start.pool.trees start.decls.list) (known_to start.decls.own) (game_in old.pool.trees s)) (closed_by h.gone.followed.proof) which

-- so it is whatever was found before, since whatever work
abbrev pub ComesTo : (old new : Work) → (allowed : Bool) → (s t : Sequence) → Tried → Type 0
ComesTo old new allowed s t tried =
    (start : Work) (first : Tree) → All (IsBelow (length start.pool.trees)) start.decls.list
    → (h : HasFound true start old first s) → Comes start old new first allowed s t h tried

-- A step is ready to be tried: behind so many names the table has what is drawn before. Where the step isn't taken, these go.

abbrev pub IsReady : (n : ℕ) → Work → Sequence → Option StepItems → Type 0
IsReady n w s o = DrawsBefore true (take n w.names) w.names w.decls.own (game_in w.pool.trees s) o

abbrev pub with_names : (n : ℕ) → Work → Work
with_names n w = record w { names = take n w.names }

abbrev pub without_drawn : Tried → (n : ℕ) → Work → Work
without_drawn (Accepted step moved) n w = w
without_drawn tried n w = with_names n w

-- a step was taken

abbrev pub is_taken : Tried → Bool
is_taken (Accepted step moved) = true
is_taken tried = false

-- what came of a step that was ready, but for the names that are still to go
abbrev pub ComesFrom : (n : ℕ) → (old new : Work) → (allowed : Bool) → (s t : Sequence) → Tried → Type 0
ComesFrom n old new allowed s t tried = ComesTo (with_names n old) (without_drawn tried n new) allowed s t tried

-- A step that was taken by a try stands in the pool, and the sequence counts one step more than the stream; else it counts as many.
abbrev pub IsBehind : Tried → Work → Sequence → Stream → Type 0
IsBehind (Accepted step moved) w s stream = (step.0.0 < length w.pool.trees) × (s.steps ≡ suc stream.steps)
IsBehind tried w s stream = s.steps ≡ stream.steps

-- Games were given back, but for what stands up to a mark and the last one.
pub record IsGivenBack (mark : ℕ) (old new : Work) (s t : Sequence) : Type 0 where
  pub stays : StaysUpTo mark old.pool new.pool
  pub few : length new.pool.trees ≤ length old.pool.trees
  pub game : game_in new.pool.trees t ≡ game_in old.pool.trees s
  pub same : SameBehind s t
  pub names : new.names ≡ old.names
  pub decls : new.decls ≡ old.decls

-- what was put behind a try: the lines of a step that was taken, and else nothing
abbrev pub PutsBehind : Tried → Work → Sequence → (middle now : Option (List ℕ)) → (mid new : ℕ) → (s t : Stream) → Type 0
PutsBehind (Accepted step moved) w q middle now mid new s t =
    (e : Leg) → IsLegOf w.names w.pool.trees q (tree_at w.pool.trees (Some step.0)) e → PutsLeg middle now mid new e s t
PutsBehind tried w q middle now mid new s t = PutsNothing middle now mid new s t

-- where memory ran out: the lines of the step, or nothing
abbrev pub CutsBehind : Tried → Work → Sequence → (middle now : Option (List ℕ)) → (mid new : ℕ) → (s t : Stream) → Type 0
CutsBehind (Accepted step moved) w q middle now mid new s t =
    (e : Leg) → IsLegOf w.names w.pool.trees q (tree_at w.pool.trees (Some step.0)) e → PutsSome middle now mid new e s t
CutsBehind tried w q middle now mid new s t = ⊥

-- while a search goes on: so many of the steps that were found were counted as moves, and the lines of their course were put
pub record IsSearching (start now : Work) (first : Tree) (made moves : ℕ) (s : Sequence) (Puts : Course → Type 0) : Type 0 where
  pub found : HasFound true start now first s
  pub counted : AreMoves found.found made
  pub few : made ≤ moves
  pub again : MayTry now s
  pub puts : Puts (course_of found.gone)

-- a search has ended with what was found so far: there is no more proposal, or a limit is passed

abbrev pub EndedBy : (made : ℕ) → (passes : Which → Type 0) → Ending → Type 0
EndedBy made passes (Exhausted n) = n ≡ made
EndedBy made passes (Stopped which) = passes which

pub record HasEnded (start now : Work) (first : Tree) (moves : ℕ) (s : Sequence) (Puts : Course → Type 0) (ending : Ending) : Type 0 where
  pub made : ℕ
  pub searching : IsSearching start now first made moves s Puts
  pub ended : EndedBy made (Passes (length now.pool.trees) (length searching.found.found) (scene (declarations start.pool.trees start.decls.list) (known_to start.decls.own) (game_in now.pool.trees s)) (closed_by searching.found.gone.followed.proof)) ending

-- how a search ends where a try comes to this, and how many moves were made where it goes on

abbrev pub ending_by : Tried → (made : ℕ) → Option Ending
ending_by (Accepted step moved) made = None
ending_by Refused made = None
ending_by Nothing made = Some (Exhausted made)
ending_by (Passed which) made = Some (Stopped which)

abbrev pub made_behind : Tried → (made : ℕ) → ℕ
made_behind (Accepted step moved) made = moves_more moved made
made_behind tried made = made

-- how a run ends whose search ended so
abbrev pub status_of : (moves : ℕ) → Ending → (unclosed : Option ℕ) → Status
status_of moves (Exhausted made) unclosed = end_of_search moves made unclosed
status_of moves (Stopped which) unclosed = status.Limit which

-- a proposal that isn't taken leaves no node
abbrev pub IsReleased : (old new : PoolView) → Tried → Type 0
IsReleased old new Refused = new.trees ≡ old.trees
IsReleased old new tried = Unit {0}

-- what comes of a proposal that fails: the pool has no room for so many nodes more, or else it isn't taken

abbrev pub IsShort : (limit live : ℕ) → Which → Type 0
IsShort limit live (Pool need) = limit < live + need
IsShort limit live which = ⊥

abbrev pub IsFailed : (old new : PoolView) → Tried → Type 0
IsFailed old new Refused = Grows old new
IsFailed old new (Passed which) = Grows old new × IsShort old.limit (length new.trees) which
IsFailed old new tried = ⊥

-- what comes of a step that isn't accepted; want of memory is none of these
abbrev pub tried_of : PushError → Option Tried
tried_of (push.Refused f) = Some Refused
tried_of push.Steps = Some (Passed Steps)
tried_of (push.Build (build.Nodes nodes)) = Some (Passed (Nodes nodes))
tried_of (push.Build (build.Depth depth)) = Some (Passed (Depth depth))
tried_of (push.Build (build.Full need)) = Some (Passed (Pool need))
tried_of (push.Build build.OutOfMemory) = None
