-- The word `simplify` of a script. It stands for steps that settle the game: whatever such steps are found there and accepted. This
-- profile's own.
use Rattle.std.specs.Prelude.{◌≡◌, ℕ, suc, ◌<◌, ◌≤◌, Bool, true, false, List, [], ◌∷◌, ◌++◌, length, All, Option, Some, None, IfSome}
use Rattle.std.specs.List.{list_all, list_any}
use Rattle.cv_kernel.specs.Proofs.{closed_by}
use Rattle.cv_kernel.specs.Sequences.{game_in}
use Rattle.cv_kernel.specs.declared.sequence.Sequence.{Sequence}
use Rattle.cv_parse.specs.Declaring.{IsBelow}
use Rattle.cv_pool.specs.declared.node.NodeId.{NodeId}
use Rattle.cv_report.specs.Lines.{Lines}
use Rattle.cv_report.specs.declared.report.Status.{Status}
use Rattle.cv_report.specs.declared.report.Status.TheVariants as status
use Rattle.cv_steps.specs.Sequences.{scene}
use Rattle.cv_syntax.specs.declared.work.Work.{Work}
use Rattle.cv_syntax.specs.Declarations.{declarations}
use Rattle.cv_syntax_trees.specs.declared.head.Head.TheVariants.{BirthdayStep, FreshStep, GuessStep, MergeStep, PruneStep, RewriteStep, SimplifyStep, UnletStep, UnnewStep}
use Rattle.cv_syntax_trees.specs.Tree.{Tree, Node}
use Rattle.cv_follow.specs.declared.searching.Tried.{Tried}
use Rattle.cv_follow.specs.declared.searching.Tried.TheVariants.{Accepted, Nothing, Passed, Refused}
use Rattle.cv_follow.specs.declared.walk.Walk.{Walk}
use Rattle.cv_follow.specs.Courses.{Course, IsReached, lines_in}
use Rattle.cv_follow.specs.Scripts.{Stops}
use Rattle.cv_kernel.specs.Followed.{known_to}
use Rattle.cv_follow.specs.Searches.{HasFound, IsKept, IsMore, MayTry}
use Rattle.cv_follow.specs.Walks.{IsWalk, course_of}

-- a step of a script is the word

abbrev pub is_word : Tree → Bool
is_word (Node SimplifyStep a b) = true
is_word t = false

abbrev pub has_word : (script : List Tree) → Bool
has_word script = list_any is_word script

-- a step is of a kind that settles a game: it makes no move, and closes no query

abbrev pub settles : Tree → Bool
settles (Node PruneStep a b) = true
settles (Node MergeStep a b) = true
settles (Node UnnewStep a b) = true
settles (Node UnletStep a b) = true
settles (Node RewriteStep a b) = true
settles (Node BirthdayStep a b) = true
settles (Node GuessStep a b) = true
settles (Node FreshStep a b) = true
settles t = false

-- The steps fill the script: they are its own, in order, and some that settle the game in the place of each word.
pub data Fills : (script steps : List Tree) → Type 0 where
  nothing : Fills [] []
  itself : (t : Tree) (script steps : List Tree) → is_word t ≡ false → Fills script steps → Fills (t ∷ script) (t ∷ steps)
  settled : (t : Tree) (found script steps : List Tree) → is_word t ≡ true → list_all settles found ≡ true → Fills script steps → Fills (t ∷ script) (found ++ steps)

-- The steps are those of a script that is followed, and the nodes are so many as the file's and those of what was proposed. They are the
-- script's own and the file's own where it hasn't the word.

abbrev pub StandsBy : (word : Bool) → (nodes : ℕ) → (script steps : List Tree) → (room : ℕ) → Type 0
StandsBy false nodes script steps room = (steps ≡ script) × (room ≡ nodes)
StandsBy true nodes script steps room = Fills script steps

abbrev pub StandsFor : (nodes : ℕ) → (script steps : List Tree) → (room : ℕ) → Type 0
StandsFor nodes script steps room = StandsBy (has_word script) nodes script steps room

-- the steps of a script, whether it has the word or not, were followed as far as this, in a pool that had so many nodes before
pub record IsBlockWalk (nodes : ℕ) (start now : Work) (first : Tree) (script queries : List Tree) (Puts : Course → Type 0) (w : Walk) : Type 0 where
  pub steps : List Tree
  pub room : ℕ
  pub stands : StandsFor nodes script steps room
  pub walk : IsWalk room start now first steps queries Puts w

-- so it is of one that has it
pub record IsFilledWalk (start now : Work) (first : Tree) (script queries : List Tree) (Puts : Course → Type 0) (w : Walk) : Type 0 where
  pub steps : List Tree
  pub fills : Fills script steps
  pub walk : IsWalk (length now.pool.trees) start now first steps queries Puts w

-- The next step, behind those that were found, ends a run so.
abbrev pub EndsNext : (start old new : Work) → (first : Tree) → (s : Sequence) → HasFound false start old first s → (step : Tree) → Status → Type 0
EndsNext start old new first s h step end =
    Stops (length new.pool.trees) (length h.found) (scene (declarations start.pool.trees start.decls.list) (known_to start.decls.own) (game_in old.pool.trees s)) (closed_by h.gone.followed.proof) step end

-- a step was taken: it stands in the pool, and is counted
pub record IsCounted (new : Work) (s t : Sequence) (node : NodeId) : Type 0 where
  pub live : node.0 < length new.pool.trees
  pub steps : t.steps ≡ suc s.steps

-- a step was taken behind those that were found, or a run ends by it

pub record IsTaken (start old new : Work) (first : Tree) (s t : Sequence) (h : HasFound false start old first s) (node : NodeId) (step : Tree) : Type 0 where
  pub more : IsMore false start old new first s t h node
  pub taken : more.step.step ≡ step

abbrev pub TakesOne : (old new : Work) → (node : NodeId) → (step : Tree) → (s t : Sequence) → Option Status → Type 0
TakesOne old new node step s t None =
    IsCounted new s t node
    × ((start : Work) (first : Tree) → All (IsBelow (length start.pool.trees)) start.decls.list
    → (h : HasFound false start old first s) → IsTaken start old new first s t h node step)
TakesOne old new node step s t (Some end) =
    IsKept old new s t
    × ((start : Work) (first : Tree) → All (IsBelow (length start.pool.trees)) start.decls.list
    → (h : HasFound false start old first s) → EndsNext start old new first s h step end)

-- the next one, which would settle the game, ends the run so
pub record IsEnded (start old new : Work) (first : Tree) (s : Sequence) (h : HasFound false start old first s) (end : Status) : Type 0 where
  pub step : Tree
  pub settling : settles step ≡ true
  pub ends : EndsNext start old new first s h step end

-- what comes of one that is tried

pub record IsSettling (start old new : Work) (first : Tree) (s t : Sequence) (h : HasFound false start old first s) (node : NodeId) : Type 0 where
  pub more : IsMore false start old new first s t h node
  pub settling : settles more.step.step ≡ true

abbrev pub SettlesOne : (old new : Work) → (s t : Sequence) → Tried → Type 0
SettlesOne old new s t (Accepted step moved) =
    IsCounted new s t step.0
    × ((start : Work) (first : Tree) → All (IsBelow (length start.pool.trees)) start.decls.list
    → (h : HasFound false start old first s) → IsSettling start old new first s t h step.0)
SettlesOne old new s t Refused = IsKept old new s t
SettlesOne old new s t Nothing = IsKept old new s t
SettlesOne old new s t (Passed which) =
    IsKept old new s t
    × ((start : Work) (first : Tree) → All (IsBelow (length start.pool.trees)) start.decls.list
    → (h : HasFound false start old first s) → IsEnded start old new first s h (status.Limit which))

-- whether more is tried behind a try, and how a run ends by the last one

abbrev pub goes_on_behind : Tried → Bool
goes_on_behind (Accepted step moved) = true
goes_on_behind Refused = true
goes_on_behind Nothing = false
goes_on_behind (Passed which) = false

abbrev pub ended_by : Tried → Option Status
ended_by (Accepted step moved) = None
ended_by Refused = None
ended_by Nothing = None
ended_by (Passed which) = Some (status.Limit which)

-- Behind steps that were found stand these, and the lines of all were put; so it is of the lines of two courses.
pub record GoesOn (start old new : Work) (first : Tree) (s t : Sequence) (h : HasFound false start old first s) (more : List Tree) (Puts : Lines → Lines → Type 0) : Type 0 where
  pub next : HasFound false start new first t
  pub put : next.found ≡ h.found ++ more
  pub again : MayTry new t
  pub puts : Puts (lines_in start first (course_of h.gone)) (lines_in start first (course_of next.gone))

-- Steps that settle the game were found, and the next one that would settle it ends the run, if something ends it.
pub record SettlesBehind (start old new : Work) (first : Tree) (s t : Sequence) (h : HasFound false start old first s) (Puts : Lines → Lines → Type 0) (end : Option Status) : Type 0 where
  pub more : List Tree
  pub on : GoesOn start old new first s t h more Puts
  pub settled : list_all settles more ≡ true
  pub ended : IfSome end (IsEnded start new new first t on.next)

-- The step of the script was taken, or it ends the run.
abbrev pub TakesBehind : (start old new : Work) → (first : Tree) → (s t : Sequence) → (h : HasFound false start old first s) → (step : Tree) → (Puts : Lines → Lines → Type 0) → Option Status → Type 0
TakesBehind start old new first s t h step Puts None = GoesOn start old new first s t h (step ∷ []) Puts
TakesBehind start old new first s t h step Puts (Some end) = (on : GoesOn start old new first s t h [] Puts) × EndsNext start new new first t on.next step end

-- what comes of a step of a script, which may be the word

abbrev pub AdvancesBy : (word : Bool) → (start old new : Work) → (first : Tree) → (s t : Sequence) → (h : HasFound false start old first s) → (step : Tree) → (Puts : Lines → Lines → Type 0) → Option Status → Type 0
AdvancesBy true start old new first s t h step Puts end = SettlesBehind start old new first s t h Puts end
AdvancesBy false start old new first s t h step Puts end = TakesBehind start old new first s t h step Puts end

-- what comes of steps that were found before, since a work that stands up to a mark

abbrev pub FoundBefore : (mark : ℕ) → (old : Work) → (s : Sequence) → ((start : Work) → (first : Tree) → HasFound false start old first s → Type 0) → Type 0
FoundBefore mark old s P =
    (start : Work) (first : Tree) → All (IsBelow (length start.pool.trees)) start.decls.list → length start.pool.trees ≤ mark
    → (h : HasFound false start old first s) → P start first h

abbrev pub SettlesAll : (mark : ℕ) → (old new : Work) → (s t : Sequence) → (Puts : Lines → Lines → Type 0) → Option Status → Type 0
SettlesAll mark old new s t Puts end = FoundBefore mark old s (λ start first h. SettlesBehind start old new first s t h Puts end)

abbrev pub Advances : (mark : ℕ) → (old new : Work) → (step : Tree) → (s t : Sequence) → (Puts : Lines → Lines → Type 0) → Option Status → Type 0
Advances mark old new step s t Puts end = FoundBefore mark old s (λ start first h. AdvancesBy (is_word step) start old new first s t h step Puts end)

-- Memory ran out behind some steps more: their course was reached, and its lines were put.
abbrev pub BreaksOff : (mark : ℕ) → (old new : Work) → (s : Sequence) → (Puts : Lines → Lines → Type 0) → Type 0
BreaksOff mark old new s Puts =
    FoundBefore mark old s (λ start first h. IsReached false start new first (λ c. Puts (lines_in start first (course_of h.gone)) (lines_in start first c)))

-- while a script is followed: the steps that were found fill its front, and the lines of their course were put
pub record IsFilling (start now : Work) (first : Tree) (front : List Tree) (s : Sequence) (Puts : Course → Type 0) : Type 0 where
  pub found : HasFound false start now first s
  pub fills : Fills front found.found
  pub puts : Puts (course_of found.gone)
