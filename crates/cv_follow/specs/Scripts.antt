-- What the steps of a proof block lead to: each is taken in the game that those before it lead to, as long as it is accepted,
-- there are no more than 2,000, and the pool has room.
use Rattle.std.specs.Prelude.{◌≡◌, ℕ, suc, ◌+◌, ◌<◌, ◌≤◌, List, [], ◌∷◌, ◌++◌, length, map, Bool, true, false, Option, Some, None}
use Rattle.cv_bound.specs.closings.Queries.{first_unclosed_from}
use Rattle.cv_kernel.specs.Followed.{LacksRoomFor, known_to}
use Rattle.cv_kernel.specs.Proofs.{IsProof, Transition, closed_by, nodes_along, sum_of}
use Rattle.cv_kernel.specs.Sayings.{IsSaid, Refused, TooDeep, TooLarge}
use Rattle.cv_accept.specs.Accepted.{most_pool}
use Rattle.cv_report.specs.declared.report.Cause.TheVariants.{StepRefused}
use Rattle.cv_report.specs.declared.report.Status.{Status}
use Rattle.cv_report.specs.declared.report.Status.TheVariants as status
use Rattle.cv_report.specs.declared.report.Verdict.{Verdict}
use Rattle.cv_report.specs.declared.report.Verdict.TheVariants.{NotProved, Proved}
use Rattle.cv_report.specs.declared.report.Which.TheVariants.{Depth, Nodes, Pool, Steps}
use Rattle.cv_scene.specs.Scenes.{Scene}
use Rattle.cv_report.specs.verdicts.Verdicts.{ended_with, verdicts_by}
use Rattle.cv_script.specs.Views.{items_of_step}
use Rattle.cv_steps.specs.Sequences.{scene}
use Rattle.cv_syntax_trees.specs.Declarations.{Declaration}
use Rattle.cv_syntax_trees.specs.Tree.{Tree}

-- the most steps of a proof
abbrev pub most_steps : ℕ
most_steps = 2000

-- Why a script goes on no further: so many steps were taken, the nodes of the file and of these are so many, these queries are
-- closed, and the next step, in this game, is this.
pub data Stops (taken count : ℕ) (s : Scene) (closed : List ℕ) (step : Tree) : Status → Type 0 where
  too_many : most_steps ≤ count → Stops taken count s closed step (status.Limit Steps)
  refused : (condition place : ℕ) → count < most_steps → IsSaid s closed (suc count) step (Refused condition place) → Stops taken count s closed step (status.Open (StepRefused (count + 1) condition place))
  too_large : (nodes : ℕ) → count < most_steps → IsSaid s closed (suc count) step (TooLarge nodes) → Stops taken count s closed step (status.Limit (Nodes nodes))
  too_deep : (depth : ℕ) → count < most_steps → IsSaid s closed (suc count) step (TooDeep depth) → Stops taken count s closed step (status.Limit (Depth depth))
  no_room : (need : ℕ) → count < most_steps → LacksRoomFor most_pool taken s closed step (items_of_step step) need → Stops taken count s closed step (status.Limit (Pool need))

-- the first of queries, numbered from a number on, that isn't closed
abbrev pub first_open : (closed : List ℕ) → (number : ℕ) → (queries : List Tree) → Option ℕ
first_open closed k queries = first_unclosed_from closed k (length queries)

-- A script was followed to its end, and these queries are closed: the first one that isn't is open, if there is one.

abbrev pub ending : (closed : List ℕ) → (queries : List Tree) → Status
ending closed queries = ended_with (first_open closed 1 queries)

-- how a run ends whose steps led to this game, closed these queries, and left these steps
abbrev pub EndsScript : (taken count : ℕ) → Scene → (closed : List ℕ) → (queries left : List Tree) → Status → Type 0
EndsScript taken count s closed queries [] end = end ≡ ending closed queries
EndsScript taken count s closed queries (step ∷ left) end = Stops taken count s closed step end

-- Steps are followed from a first game on: those in front are accepted, and the others are left.
pub record Follows (taken : ℕ) (ds : List Declaration) (own : ℕ) (first : Tree) (steps queries : List Tree) (end : Status) : Type 0 where
  pub proof : List Transition
  pub left : List Tree
  pub split : steps ≡ map (λ t. t.step) proof ++ left
  pub last : Tree
  pub leads : IsProof ds (known_to own) first proof last
  pub ends : EndsScript (taken + nodes_along ds (known_to own) first proof) (length proof) (scene ds (known_to own) last) (closed_by proof) queries left end

-- a file has no proof block: its steps are found
abbrev pub is_without_block : Option (List Tree) → Bool
is_without_block None = true
is_without_block (Some script) = false

-- the verdict is `Proved`
abbrev pub is_proved : Verdict → Bool
is_proved (Proved s) = true
is_proved NotProved = false

abbrev pub verdicts_of : List Transition → (queries : List Tree) → List Verdict
verdicts_of ts queries = verdicts_by (sum_of ts) 1 queries
