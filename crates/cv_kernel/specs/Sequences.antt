-- What a sequence of games holds, and what a step does to it.
use Rattle.std.specs.Prelude.{◌≡◌, ℕ, suc, ◌+◌, ◌*◌, ◌<◌, ◌≤◌, List, [], ◌∷◌, ◌++◌, length, Option, Some, None, option_map, IfSome, IsSome, Result, Ok, Err}
use Rattle.cv_pool.specs.KindTree.{KindTree}
use Rattle.cv_pool.specs.PoolView.{PoolView}
use Rattle.cv_syntax.specs.Classes.{DeclsView}
use Rattle.cv_syntax.specs.declared.work.BuildError.TheVariants as build
use Rattle.cv_syntax_trees.specs.Tree.{Tree, size}
use Rattle.cv_syntax.specs.PoolTrees.{tree_at}
use Rattle.cv_syntax.specs.Declarations.{declarations}
use Rattle.cv_scope_rules.specs.Phrases.{IsWellFormed}
use Rattle.cv_bound.specs.declared.cost.Cost.{Cost as SumCost}
use Rattle.cv_costs.specs.Certificates.{cost_of_certificate}
use Rattle.cv_query_certificates.specs.Failures.{Failure}
use Rattle.cv_scene_view.specs.Kept.{scene_of}
use Rattle.cv_rule.specs.Prepared.{IsPrepared}
use Rattle.cv_steps.specs.Costs.{cost_of}
use Rattle.cv_steps.specs.Judgements.{Judgement, Refused, TooLarge, TooDeep, Accepted}
use Rattle.cv_syntax.specs.limits.Limits.{most_nodes, nodes_of}
use Rattle.cv_steps.specs.Steps.{Cost}
use Rattle.cv_bound.specs.closings.Queries.{numbers_of}
use Rattle.cv_context.specs.products.Shapes.{shape_of}
use Rattle.cv_context.specs.products.ShapesInCode.{shape_in}
use Rattle.cv_scene.specs.Reductions.{context_of_game}
use Rattle.cv_scene.specs.Scenes.{Scene}
use Rattle.cv_script.specs.Views.{StepItems, items_of_step}
use Rattle.cv_script.specs.Views as items
use Rattle.cv_steps_laws.specs.crypto.Conditions.{equivalence_of}
use Rattle.cv_steps_laws.specs.crypto.Steps.{IsOutcome, reduction_of}
use Rattle.cv_steps_laws.specs.crypto.Steps as outcome
use Rattle.cv_kernel_crypto.specs.Applied as applied
use Rattle.cv_kernel_crypto.specs.declared.fault.CryptoFault.{CryptoFault}
use Rattle.cv_kernel_crypto.specs.declared.fault.CryptoFault.TheVariants as crypto
use Rattle.cv_kernel.specs.Closings.{Closing, closing_failure, is_of_secrecy}
use Rattle.cv_bound.specs.Sums.{coefficients}
use Rattle.cv_bound.specs.costs.Costs.{advantage_of}
use Rattle.cv_bound.specs.declared.costs.sums.Sums.{Sums}
use Rattle.cv_bound.specs.costs.Sums.{SumsFit, sum_for, with_cost}
use Rattle.cv_edit_places.specs.Plans.{most_coefficients}
use Rattle.cv_kernel.specs.Answers.{HasNoRoom, as_told}
use Rattle.cv_kernel.specs.Rules.{Rule, needed_by, rule_in}
use Rattle.cv_kernel.specs.Steps.{judgement_by}
use Rattle.cv_kernel.specs.declared.error.PushError.{PushError}
use Rattle.cv_kernel.specs.declared.error.PushError.TheVariants as push
use Rattle.cv_kernel.specs.declared.error.RuleError.{RuleError}
use Rattle.cv_kernel.specs.declared.error.RuleError.TheVariants as rule
use Rattle.cv_kernel.specs.declared.sequence.Sequence.{Sequence}

abbrev pub push_fault : RuleError → PushError
push_fault (rule.Refused f) = push.Refused (record { condition = f.condition; place = f.place })
push_fault (rule.Build e) = push.Build e

abbrev pub reduce_fault : CryptoFault → PushError
reduce_fault (crypto.Refused f) = push.Refused (record { condition = f.condition; place = f.place })
reduce_fault (crypto.Build e) = push.Build e

abbrev pub game_in : List KindTree → Sequence → Tree
game_in trees s = tree_at trees (Some s.game.root)

-- of so many steps the coefficients are few: for secrecy a collision counts twice
abbrev pub AreModest : Sums → (steps : ℕ) → Type 0
AreModest sums steps = coefficients sums.plain + coefficients sums.secret ≤ steps * (3 * most_coefficients)

-- The last game is a live one within the limits and well-formed, and what there is to read in it was looked up there. Sums have room
-- for all steps that may follow.
pub record Stands (trees : List KindTree) (decls : DeclsView) (s : Sequence) : Type 0 where
  pub live : s.game.root.0 < length trees
  pub small : size (game_in trees s) ≤ most_nodes
  pub formed : IsWellFormed (declarations trees decls.list) (game_in trees s)
  pub arrays : IfSome s.arrays (IsPrepared trees decls s.game.root)
  pub fits : SumsFit s.sum
  pub modest : AreModest s.sum s.steps
  pub few : s.steps ≤ 2000

abbrev pub IsReady : List KindTree → Sequence → Type 0
IsReady trees s = IsSome s.arrays

-- the same game, with what led to it
pub record Same (old new : Sequence) : Type 0 where
  pub game : new.game ≡ old.game
  pub steps : new.steps ≡ old.steps
  pub cost : new.cost ≡ old.cost
  pub sum : new.sum ≡ old.sum
  pub context : new.context ≡ old.context
  pub closed : new.closed ≡ old.closed

-- the same steps led to the last game, which may stand elsewhere
pub record SameBehind (old new : Sequence) : Type 0 where
  pub steps : new.steps ≡ old.steps
  pub cost : new.cost ≡ old.cost
  pub sum : new.sum ≡ old.sum
  pub context : new.context ≡ old.context
  pub closed : new.closed ≡ old.closed

-- how many nodes a step may add: one with a rule what the rule draws, and a cryptographic one its context and its next game

abbrev pub needed : (game step : Tree) → ℕ
needed game step = needed_by game (rule_in step)

-- the nodes of the context of a step, where there is one
abbrev pub context_nodes : Scene → (x : ℕ) → Option Tree → ℕ
context_nodes s x None = 0
context_nodes s x (Some t) = nodes_of (context_of_game (reduction_of s t x)).game

abbrev pub needed_for : Scene → (step next : Tree) → Option StepItems → ℕ
needed_for s step next (Some (items.Crypto e x)) = context_nodes s x (equivalence_of s e) + nodes_of next
needed_for s step next other = needed s.game step

-- the step was accepted: the sequence has its next game, its cost, and the sum with it
pub record IsTaken (limit live : ℕ) (need : ℕ) (j : Judgement) (trees : List KindTree) (old new : Sequence) : Type 0 where
  pub cost : Cost
  pub accepted : j ≡ Accepted (game_in trees new) cost
  pub steps : new.steps ≡ suc old.steps
  pub costs : new.cost ≡ Some (cost_of cost)
  pub sum : new.sum ≡ with_cost old.sum (cost_of cost)
  pub closed : new.closed ≡ old.closed
  pub context : new.context ≡ None
  pub room : live + need ≤ limit

-- Each answer is what is said of the step; memory may run out anywhere.
abbrev pub IsPushAnswer : (limit live need : ℕ) → Judgement → List KindTree → (old new : Sequence) → Result (Unit {0}) PushError → Type 0
IsPushAnswer limit live need j trees old new (Ok u) = IsTaken limit live need j trees old new
IsPushAnswer limit live need j trees old new (Err (push.Refused f)) = j ≡ Refused f.condition f.place
IsPushAnswer limit live need j trees old new (Err push.Steps) = ⊥
IsPushAnswer limit live need j trees old new (Err (push.Build (build.Nodes count))) = as_told j ≡ TooLarge count
IsPushAnswer limit live need j trees old new (Err (push.Build (build.Depth depth))) = as_told j ≡ TooDeep depth
IsPushAnswer limit live need j trees old new (Err (push.Build (build.Full asked))) = HasNoRoom limit live need j asked
IsPushAnswer limit live need j trees old new (Err (push.Build build.OutOfMemory)) = Unit {0}

abbrev pub IsAdvanced : PoolView → DeclsView → List KindTree → (old new : Sequence) → Option Rule → Result (Unit {0}) PushError → Type 0
IsAdvanced pool decls trees old new o r =
    IsPushAnswer pool.limit (length pool.trees) (needed_by (game_in pool.trees old) o) (judgement_by (scene_of pool decls old.game.root) o) trees old new r

-- what a step that closes a query costs, as sums take it
abbrev pub closing_cost : Scene → Closing → SumCost
closing_cost s c = cost_of (cost_of_certificate s c.certificate)

-- A query is closed up to the sum of the steps before and the cost of its certificate, in that of a query of its kind. The game stays,
-- and so does the sum for the steps behind.
pub record IsClosing (s : Scene) (c : Closing) (old new : Sequence) : Type 0 where
  pub game : new.game ≡ old.game
  pub steps : new.steps ≡ suc old.steps
  pub cost : new.cost ≡ Some (closing_cost s c)
  pub sum : new.sum ≡ old.sum
  pub context : new.context ≡ None
  pub closed : new.closed ≡ old.closed ++ record { query = c.query; sum = sum_for (is_of_secrecy c) (with_cost old.sum (closing_cost s c)) } ∷ []

-- A step that closes a query is answered by the first condition that fails; memory may run out anywhere.
abbrev pub IsCloseAnswer : Scene → Option Failure → Closing → (old new : Sequence) → Result (Unit {0}) PushError → Type 0
IsCloseAnswer s failure c old new (Ok u) = (failure ≡ None) × IsClosing s c old new
IsCloseAnswer s failure c old new (Err (push.Refused f)) = failure ≡ Some (record { condition = f.condition; place = f.place })
IsCloseAnswer s failure c old new (Err (push.Build build.OutOfMemory)) = Unit {0}
IsCloseAnswer s failure c old new (Err e) = ⊥

-- a cryptographic step was accepted: the sequence has its next game, the advantage of its context as cost, and the context's shape
pub record IsReduced (limit live : ℕ) (s : Scene) (e x : ℕ) (trees : List KindTree) (old new : Sequence) : Type 0 where
  pub accepted : IsOutcome s e x (outcome.Accepted (game_in trees new))
  pub steps : new.steps ≡ suc old.steps
  pub costs : new.cost ≡ Some (advantage_of new.steps e)
  pub sum : new.sum ≡ with_cost old.sum (advantage_of new.steps e)
  pub closed : new.closed ≡ old.closed
  pub shape : option_map shape_in new.context ≡ option_map (λ t. shape_of s t x) (equivalence_of s e)
  pub few : length trees ≤ live + context_nodes s x (equivalence_of s e) + nodes_of (game_in trees new)
  pub room : live + context_nodes s x (equivalence_of s e) + nodes_of (game_in trees new) ≤ limit

-- Each answer is what may be said of it; memory may run out anywhere.
abbrev pub IsReduceAnswer : (limit live : ℕ) → Scene → (e x : ℕ) → List KindTree → (old new : Sequence) → Result (Unit {0}) PushError → Type 0
IsReduceAnswer limit live s e x trees old new (Ok u) = IsReduced limit live s e x trees old new
IsReduceAnswer limit live s e x trees old new (Err (push.Refused f)) = IsOutcome s e x (outcome.Refused f.condition f.place)
IsReduceAnswer limit live s e x trees old new (Err push.Steps) = ⊥
IsReduceAnswer limit live s e x trees old new (Err (push.Build (build.Nodes count))) = IsOutcome s e x (outcome.TooLarge count)
IsReduceAnswer limit live s e x trees old new (Err (push.Build (build.Depth depth))) = IsOutcome s e x (outcome.TooDeep depth)
IsReduceAnswer limit live s e x trees old new (Err (push.Build (build.Full asked))) = applied.HasNoRoom limit live s e x asked
IsReduceAnswer limit live s e x trees old new (Err (push.Build build.OutOfMemory)) = Unit {0}

-- each kind of step is answered so
abbrev pub IsStepAnswer : PoolView → DeclsView → List KindTree → (old new : Sequence) → (step : Tree) → Option StepItems → Result (Unit {0}) PushError → Type 0
IsStepAnswer pool decls trees old new step (Some (items.Success k certificate)) r =
    IsCloseAnswer (scene_of pool decls old.game.root) (closing_failure (scene_of pool decls old.game.root) (numbers_of old.closed) (record { query = k; certificate = certificate }))
    (record { query = k; certificate = certificate }) old new r
IsStepAnswer pool decls trees old new step (Some (items.Crypto e x)) r =
    IsReduceAnswer pool.limit (length pool.trees) (scene_of pool decls old.game.root) e x trees old new r
IsStepAnswer pool decls trees old new step other r =
    IsPushAnswer pool.limit (length pool.trees) (needed (game_in pool.trees old) step) (judgement_by (scene_of pool decls old.game.root) (rule_in step)) trees old new r

-- as many steps were taken as a proof may have, or the step was answered
abbrev pub IsPushed : PoolView → DeclsView → List KindTree → (old new : Sequence) → (step : Tree) → Result (Unit {0}) PushError → Type 0
IsPushed pool decls trees old new step (Err push.Steps) = 2000 ≤ old.steps
IsPushed pool decls trees old new step r = (old.steps < 2000) × IsStepAnswer pool decls trees old new step (items_of_step step) r
