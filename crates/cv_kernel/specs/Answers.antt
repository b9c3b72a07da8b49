-- What the kernel answers of a step in a game, and what the stages of a step answer. This profile's own.
use Rattle.std.specs.Prelude.{◌≡◌, ℕ, ◌+◌, ◌<◌, ◌≤◌, Bool, false, List, Option, Some, None, Result, Ok, Err}
use Rattle.cv_pool.specs.KindTree.{KindTree}
use Rattle.cv_syntax.specs.declared.work.BuildError.TheVariants as build
use Rattle.cv_syntax.specs.limits.Limits.{told}
use Rattle.cv_syntax.specs.PoolTrees.{tree_at}
use Rattle.cv_scene.specs.Scenes.{Scene}
use Rattle.cv_bound.specs.Sums.{coefficients, terms_of}
use Rattle.cv_steps.specs.Costs.{cost_of}
use Rattle.cv_steps.specs.Judgements.{Judgement, Refused, TooLarge, TooDeep, Accepted}
use Rattle.cv_steps.specs.Steps.{Cost, Leads, Zero}
use Rattle.cv_edit_places.specs.Plans.{failed, failure_of, most_coefficients}
use Rattle.cv_rule.specs.declared.edit.edit.Edit.{Edit}
use Rattle.cv_rule.specs.edit.Edits.{CanBeMade, edited, need_of}
use Rattle.cv_kernel_crypto.specs.declared.games.testing.Next.{Next}
use Rattle.cv_kernel.specs.declared.error.RuleError.{RuleError}
use Rattle.cv_kernel.specs.declared.error.RuleError.TheVariants as rule
use Rattle.cv_kernel.specs.declared.planning.StepPlan.{StepPlan}
use Rattle.cv_kernel.specs.Rules.{Rule}
use Rattle.cv_kernel.specs.Steps.{judgement_by}

-- The next game is drawn: its limits hold, and it is one or it isn't.
abbrev pub IsDrawn : Judgement → Type 0
IsDrawn (Accepted next cost) = Unit {0}
IsDrawn (Refused condition place) = condition ≡ 9
IsDrawn other = ⊥

-- a pool with so many nodes has no room for the next game, which needs so many
pub record HasNoRoom (limit live need : ℕ) (j : Judgement) (asked : ℕ) : Type 0 where
  pub drawn : IsDrawn j
  pub asks : asked ≡ need
  pub over : limit < live + asked

-- the step is accepted, and this is its next game, with its cost; the pool had room for it
pub record IsNext (limit live need : ℕ) (j : Judgement) (trees : List KindTree) (next : Next) : Type 0 where
  pub cost : Cost
  pub accepted : j ≡ Accepted (tree_at trees (Some next.game.root)) cost
  pub costs : next.cost ≡ cost_of cost
  pub few : coefficients (terms_of next.cost false) ≤ most_coefficients
  pub room : live + need ≤ limit

-- what is said of a step, with the size or the depth of a game that passes a limit as it is told
abbrev pub as_told : Judgement → Judgement
as_told (Refused condition place) = Refused condition place
as_told (TooLarge nodes) = TooLarge (told nodes)
as_told (TooDeep depth) = TooDeep (told depth)
as_told (Accepted next cost) = Accepted next cost

-- Each answer is what is said of the step; memory may run out anywhere.
abbrev pub IsAnswer : (limit live need : ℕ) → Judgement → List KindTree → Result Next RuleError → Type 0
IsAnswer limit live need j trees (Ok next) = IsNext limit live need j trees next
IsAnswer limit live need j trees (Err (rule.Refused f)) = j ≡ Refused f.condition f.place
IsAnswer limit live need j trees (Err (rule.Build (build.Nodes count))) = as_told j ≡ TooLarge count
IsAnswer limit live need j trees (Err (rule.Build (build.Depth depth))) = as_told j ≡ TooDeep depth
IsAnswer limit live need j trees (Err (rule.Build (build.Full asked))) = HasNoRoom limit live need j asked
IsAnswer limit live need j trees (Err (rule.Build build.OutOfMemory)) = Unit {0}

-- what the stages of a step answer

-- The conditions of the step hold, and its next game is at this cost the one with this edit, for which the pool is asked for as many nodes.
pub record IsCostlyEdit (trees : List KindTree) (s : Scene) (r : Rule) (cost : Cost) (e : Edit) : Type 0 where
  pub met : failure_of s r.step ≡ None
  pub leads : r.step.row s ≡ Leads (edited trees s.game e) cost
  pub need : r.need s.game ≡ need_of s.game e
  pub can : CanBeMade trees s.game e

-- and without a cost
abbrev pub IsEdit : List KindTree → Scene → Rule → Edit → Type 0
IsEdit trees s r e = IsCostlyEdit trees s r Zero e

abbrev pub IsEditBy : List KindTree → Scene → Option Rule → Edit → Type 0
IsEditBy trees s None e = ⊥
IsEditBy trees s (Some r) e = IsEdit trees s r e

-- no edit is planned: the step is refused, or memory ran out
abbrev pub IsUnplanned : Judgement → RuleError → Type 0
IsUnplanned j (rule.Refused f) = j ≡ Refused f.condition f.place
IsUnplanned j (rule.Build build.OutOfMemory) = Unit {0}
IsUnplanned j (rule.Build other) = ⊥

abbrev pub IsEditPlan : List KindTree → Scene → Option Rule → Result Edit RuleError → Type 0
IsEditPlan trees s o (Ok e) = IsEditBy trees s o e
IsEditPlan trees s o (Err e) = IsUnplanned (judgement_by s o) e

-- an edit with what it costs; a sum has room for the coefficients of each step

pub record IsPriced (trees : List KindTree) (s : Scene) (r : Rule) (p : StepPlan) : Type 0 where
  pub cost : Cost
  pub edit : IsCostlyEdit trees s r cost p.edit
  pub same : p.cost ≡ cost_of cost
  pub few : coefficients (terms_of p.cost false) ≤ most_coefficients

abbrev pub IsPricedBy : List KindTree → Scene → Option Rule → StepPlan → Type 0
IsPricedBy trees s None p = ⊥
IsPricedBy trees s (Some r) p = IsPriced trees s r p

abbrev pub IsPlan : List KindTree → Scene → Option Rule → Result StepPlan RuleError → Type 0
IsPlan trees s o (Ok p) = IsPricedBy trees s o p
IsPlan trees s o (Err e) = IsUnplanned (judgement_by s o) e

-- no game stands at a node: it is none, or memory ran out
abbrev pub IsNoGame : Bool → RuleError → Type 0
IsNoGame b (rule.Refused f) = (f ≡ failed 9 0) × (b ≡ false)
IsNoGame b (rule.Build build.OutOfMemory) = Unit {0}
IsNoGame b other = ⊥
