-- What is said of a file. The steps of its proof block are followed, and without one steps are found that are said as those of a block;
-- those of them that close queries prove these.
use Rattle.std.specs.Prelude.{◌≡◌, ℕ, suc, ◌+◌, ◌≤◌, ◌⊎◌, Bool, true, false, List, [], ◌∷◌, ◌++◌, length, map, take, Option, Some, None, Result, Ok, Err, slice_get, IfSome}
use Rattle.cv_syntax.specs.declared.work.File.{File}
use Rattle.cv_syntax_trees.specs.Declarations.{Declaration}
use Rattle.cv_syntax.specs.Declarations.{declarations}
use Rattle.cv_syntax_trees.specs.Tree.{Tree}
use Rattle.cv_syntax.specs.PoolTrees.{tree_at}
use Rattle.cv_meaning.specs.Interpretation.{Interpretation, setting_of}
use Rattle.cv_meaning.specs.Satisfies.{Satisfies}
use Rattle.cv_meaning.specs.Runs.{Adversary}
use Rattle.cv_meaning.specs.Advantage.{advantage}
use Rattle.cv_meaning.specs.Chances.{AtMost}
use Rattle.cv_meaning_chances.specs.Fractions.{HasTapes}
use Rattle.cv_bound.specs.declared.terms.Term.{Term}
use Rattle.cv_bound.specs.declared.cost.Cost.{Cost}
use Rattle.cv_kernel.specs.Proofs.{IsProof, Transition, closed_by, nodes_along}
use Rattle.cv_kernel.specs.Sayings.{Accepted, IsSaid, Saying}
use Rattle.cv_kernel.specs.Sequences.{context_nodes, needed_for}
use Rattle.cv_accept.specs.declared.error.FileError.{FileError}
use Rattle.cv_accept.specs.Accepted.{Content, IsFile, IsFull, most_pool, read_of}
use Rattle.cv_library.specs.Givens.{Given}
use Rattle.cv_accept.specs.Works.{content_at, content_in, content_nodes, script_in}
use Rattle.cv_meaning.specs.Queries.{queries_in}
use Rattle.cv_report.specs.declared.report.Cause.TheVariants.{NoClose}
use Rattle.cv_report.specs.declared.report.Command.{Command}
use Rattle.cv_report.specs.declared.report.Command.TheVariants as command
use Rattle.cv_report.specs.declared.report.Report.{Report}
use Rattle.cv_report.specs.declared.report.Status.{Status}
use Rattle.cv_report.specs.declared.report.Status.TheVariants as status
use Rattle.cv_report.specs.declared.report.Verdict.TheVariants.{Proved}
use Rattle.cv_report.specs.declared.report.Which.TheVariants.{Depth, Nodes, Pool, Steps, Tokens}
use Rattle.cv_scene.specs.Scenes.{Scene}
use Rattle.cv_script.specs.Views.{StepItems, items_of_step}
use Rattle.cv_script.specs.Views as items
use Rattle.cv_steps.specs.Sequences.{scene}
use Rattle.cv_steps_laws.specs.crypto.Conditions.{equivalence_of}
use Rattle.cv.specs.Contexts.{contexts_of}
use Rattle.cv.specs.Faults.{status_of as ended_by}
use Rattle.cv_follow.specs.Courses.{Course}
use Rattle.cv_follow.specs.Scripts.{Follows, first_open, most_steps, verdicts_of}
use Rattle.cv_kernel.specs.Followed.{known_to}
use Rattle.cv_follow.specs.Walks.{EndsAlong}
use Rattle.cv_follow.specs.Fillings.{StandsFor, has_word}
use Rattle.cv_follow.specs.Searches.{Finds, FindsAlong}
use Rattle.cv.specs.Values.{Contexts, value_of}
use Rattle.cv.specs.Words.{IsShort}

-- `games` asks for no verdicts

abbrev pub is_games : Command → Bool
is_games command.Games = true
is_games c = false

abbrev pub shown : Status → Status
shown status.Proved = status.Done
shown (status.Open (NoClose k)) = status.Done
shown s = s

-- how many moves a command allows
abbrev pub moves_in : Command → ℕ
moves_in (command.Prove moves more query) = moves
moves_in (command.Sample n prove) = 32
moves_in command.Games = 0
moves_in command.Nothing = 0

-- a command asks for further moves
abbrev pub asks_more : Command → Bool
asks_more (command.Prove moves more query) = more
asks_more c = false

-- how a run ends under a command whose proof block was followed to such an end
abbrev pub ends_under : Command → Status → Status
ends_under command.Games s = shown s
ends_under c s = s

-- how a run over a file ends under a command

-- the steps of a proof block were followed, with those that were found in the place of the word `simplify`
pub record EndsBlock (c : Command) (f : Content) (block : List Tree) (end : Status) : Type 0 where
  pub walked : Status
  pub steps : List Tree
  pub room : ℕ
  pub stands : StandsFor (content_nodes f) block steps room
  pub follows : Follows room f.declarations f.own f.game steps (queries_in f.declarations) walked
  pub ends : end ≡ ends_under c walked

-- without a proof block `games` takes no step, and else steps are found, in a pool that has some number of nodes in the end
abbrev pub EndsWithout : (games : Bool) → (moves : ℕ) → Content → Status → Type 0
EndsWithout true moves f end = end ≡ status.Done
EndsWithout false moves f end = (taken : ℕ) × Finds taken moves f.declarations f.own f.game end

abbrev pub EndsBy : Command → Content → Option (List Tree) → Status → Type 0
EndsBy c f None end = EndsWithout (is_games c) (moves_in c) f end
EndsBy c f (Some steps) end = EndsBlock c f steps end

-- the status is one of a file, or of a source that is refused
abbrev pub IsExpected : Command → Result Content FileError → Status → Type 0
IsExpected c (Err e) s = s ≡ ended_by e
IsExpected c (Ok f) s = EndsBy c f f.script s

-- The status is one that this source has, unless memory ended the run. The pool may have no room for a proof block.
abbrev pub Judged : Command → Status → Given → Type 0
Judged c status.Memory source = Unit {0}
Judged c (status.Limit (Pool need)) source = IsExpected c (read_of most_pool source) (status.Limit (Pool need)) ⊎ IsFull most_pool source need
Judged c s source = IsExpected c (read_of most_pool source) s

-- the status speaks of a file or its library
abbrev pub SpeaksOfFile : Status → Type 0
SpeaksOfFile status.Proved = Unit {0}
SpeaksOfFile (status.Open cause) = Unit {0}
SpeaksOfFile (status.FileRefused fault) = Unit {0}
SpeaksOfFile (status.Limit (Tokens count)) = Unit {0}
SpeaksOfFile (status.Limit (Nodes count)) = Unit {0}
SpeaksOfFile (status.Limit (Depth depth)) = Unit {0}
SpeaksOfFile (status.Limit (Pool need)) = Unit {0}
SpeaksOfFile (status.Limit Steps) = Unit {0}
SpeaksOfFile s = ⊥

-- the declarations of a report's file, its game and its steps

abbrev pub declared_in : Report → List Declaration
declared_in r = declarations r.work.pool.trees r.work.decls.list

abbrev pub game_in : Report → File → Tree
game_in r f = tree_at r.work.pool.trees (Some f.game.root)

abbrev pub steps_in : Report → Option (List Tree)
steps_in r = script_in r.work.pool.trees r.script

-- what a report's file holds, with so many of the report's names: those behind them were drawn
abbrev pub file_in : Report → File → (names : ℕ) → Content
file_in r f n = content_in (take n r.work.names) r.work.decls.own r.work.pool.trees r.work.decls.list f.game.root r.script

-- how many nodes the trees of a report's file take
abbrev pub nodes_in : Report → File → ℕ
nodes_in r f = content_nodes (content_at r.work f.game.root r.script)

-- A course is one of a report's file: its steps are accepted in turn.
abbrev pub Leads : Report → File → Course → Type 0
Leads r f c = IsProof (declared_in r) (known_to r.work.decls.own) (game_in r f) c.proof c.last

-- A query is proved where a step of the course closes it; where memory ran out there are no verdicts.
pub data HasVerdicts (r : Report) (c : Course) : Type 0 where
  all : r.verdicts.items ≡ verdicts_of c.proof (queries_in (declared_in r)) → HasVerdicts r c
  none : r.status ≡ status.Memory → r.verdicts.items ≡ [] → HasVerdicts r c

-- What a report says of a course, whether its steps are those of a proof block or were found.
pub record TakesSteps (r : Report) (f : File) (c : Course) : Type 0 where
  pub leads : Leads r f c
  pub verdicts : HasVerdicts r c

-- Steps were found without a proof block, no more of them counted as moves than the command allows, and the search for more ended so.
abbrev pub FollowsStrategy : Report → Course → Type 0
FollowsStrategy r c = FindsAlong (length r.work.pool.trees) (moves_in r.command) (declared_in r) r.work.decls.own c r.status

-- The steps are those of the proof block that are accepted in turn, and in the place of the word `simplify` some that settle the game; the
-- end is that of the first that isn't accepted, or of the end of the block.
pub record FollowsScript (r : Report) (f : File) (script : List Tree) (c : Course) : Type 0 where
  pub steps : List Tree
  pub room : ℕ
  pub stands : StandsFor (nodes_in r f) script steps room
  pub end : Status
  pub ends : EndsAlong room (declared_in r) r.work.decls.own (game_in r f) steps (queries_in (declared_in r)) c end
  pub ended : r.status ≡ ends_under r.command end

-- Without a proof block `games` takes no step.
pub record ShowsFile (r : Report) (c : Course) : Type 0 where
  pub steps : c.proof ≡ []
  pub status : r.status ≡ status.Done

abbrev pub ProceedsWithout : (games : Bool) → Report → Course → Type 0
ProceedsWithout true r c = ShowsFile r c
ProceedsWithout false r c = FollowsStrategy r c

abbrev pub ProceedsBy : Report → File → Course → Option (List Tree) → Type 0
ProceedsBy r f c None = ProceedsWithout (is_games r.command) r c
ProceedsBy r f c (Some script) = FollowsScript r f script c

-- A run over a file goes along a course, as its proof block or the strategy has it, unless memory ran out behind some of its steps.
pub record Proceeds (r : Report) (f : File) (c : Course) (block : Option (List Tree)) : Type 0 where
  pub took : TakesSteps r f c
  pub by : (r.status ≡ status.Memory) ⊎ ProceedsBy r f c block

-- the status says that there is a file
abbrev pub HasFile : Status → Type 0
HasFile status.Proved = Unit {0}
HasFile (status.Open cause) = Unit {0}
HasFile (status.Limit Steps) = Unit {0}
HasFile s = ⊥

-- a run over a file ends so; a file itself may also have passed these limits
abbrev pub MayHaveFile : Status → Type 0
MayHaveFile (status.Limit (Pool need)) = Unit {0}
MayHaveFile (status.Limit (Nodes count)) = Unit {0}
MayHaveFile (status.Limit (Depth depth)) = Unit {0}
MayHaveFile status.Done = Unit {0}
MayHaveFile status.Memory = Unit {0}
MayHaveFile s = HasFile s

abbrev pub IsAcceptance : Saying → Type 0
IsAcceptance (Accepted next cost) = Unit {0}
IsAcceptance w = ⊥

-- how many nodes the context of a step takes, where it is a cryptographic one
abbrev pub context_needs : Scene → Option StepItems → ℕ
context_needs s (Some (items.Crypto e x)) = context_nodes s x (equivalence_of s e)
context_needs s other = 0

-- Behind steps that led to a game, with so many nodes, the next one is accepted there, whatever names are drawn for the game that it
-- leads to, and a pool has room for it.
pub record GoesOn (taken count : ℕ) (s : Scene) (closed : List ℕ) (step : Tree) : Type 0 where
  pub accepted : (w : Saying) → IsSaid s closed (suc count) step w → IsAcceptance w
  pub context : taken + context_needs s (items_of_step step) ≤ most_pool
  pub fits : (next : Tree) (cost : Cost) → IsSaid s closed (suc count) step (Accepted next cost) → taken + needed_for s step next (items_of_step step) ≤ most_pool

-- The steps of a proof block are each accepted in turn, whatever names are drawn, and no more than there may be; the nodes of the file,
-- of all games and of all contexts are no more than a pool may have; and each query of the file is closed.
pub record AcceptsAll (f : Content) (steps : List Tree) : Type 0 where
  pub few : length steps ≤ most_steps
  pub fits : content_nodes f ≤ most_pool
  pub goes : (front : List Transition) (last next : Tree) (left : List Tree) → steps ≡ map (λ t. t.step) front ++ next ∷ left → IsProof f.declarations (known_to f.own) f.game front last
      → GoesOn (content_nodes f + nodes_along f.declarations (known_to f.own) f.game front) (length front) (scene f.declarations (known_to f.own) last) (closed_by front) next
  pub closed : (proof : List Transition) (last : Tree) → steps ≡ map (λ t. t.step) proof → IsProof f.declarations (known_to f.own) f.game proof last → first_open (closed_by proof) 1 (queries_in f.declarations) ≡ None

-- A file within the limits that is proved: the steps of its proof block are all accepted, and the word isn't among them.
pub record IsGood (source : Given) : Type 0 where
  pub short : IsShort source
  pub content : Content
  pub file : IsFile most_pool source content
  pub steps : List Tree
  pub script : content.script ≡ Some steps
  pub plain : has_word steps ≡ false
  pub succeeds : AcceptsAll content steps

-- proved, or done where no verdicts are asked for, unless memory ended the run
abbrev pub EndsWell : Command → Status → Type 0
EndsWell c s = (s ≡ ends_under c status.Proved) ⊎ (s ≡ status.Memory)

-- No adversary has a greater advantage against the query than the sum's value. Both have tapes, so that they are numbers.
abbrev pub HoldsUpTo : List Declaration → Contexts → Tree → Tree → List Term → Type 0
HoldsUpTo ds cs game query s =
    (i : Interpretation) → Satisfies ds i → (a : Adversary)
    → HasTapes (advantage (setting_of ds i) query a game) × HasTapes (value_of ds i cs query a s) × AtMost (advantage (setting_of ds i) query a game) (value_of ds i cs query a s)

-- Where the verdict on a query is `Proved`, the query holds up to the sum, with the contexts of the course that was taken.
abbrev pub HoldsAlong : Report → File → Course → Type 0
HoldsAlong r f c =
    (k : ℕ) (query : Tree) (s : List Term)
    → slice_get (queries_in (declared_in r)) k ≡ Some query → slice_get r.verdicts.items k ≡ Some (Proved s)
    → HoldsUpTo (declared_in r) (contexts_of r f c) (game_in r f) query s

abbrev pub IsSound : Report → Type 0
IsSound r = IfSome r.file (λ f. (c : Course) → TakesSteps r f c → HoldsAlong r f c)
