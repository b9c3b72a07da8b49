-- What may be said of the tree of a step: of a cryptographic step what it may come to, and of every other step the one judgement. This
-- profile's own.
use Rattle.std.specs.Prelude.{◌≡◌, ℕ, List, Option, Some}
use Rattle.cv_syntax.specs.limits.Limits.{told}
use Rattle.cv_syntax_trees.specs.Tree.{Tree}
use Rattle.cv_bound.specs.declared.cost.Cost.{Cost}
use Rattle.cv_scene.specs.Scenes.{Scene}
use Rattle.cv_script.specs.Views.{StepItems, items_of_step}
use Rattle.cv_script.specs.Views as items
use Rattle.cv_steps.specs.Costs.{cost_of}
use Rattle.cv_steps.specs.Judgements.{Judgement}
use Rattle.cv_steps.specs.Judgements as judgement
use Rattle.cv_steps_laws.specs.crypto.Steps.{IsOutcome, Outcome}
use Rattle.cv_steps_laws.specs.crypto.Steps as outcome
use Rattle.cv_bound.specs.costs.Costs.{advantage_of}
use Rattle.cv_kernel.specs.Closings.{judgement_in}

pub data Saying : Type 0 where
  Refused : (condition place : ℕ) → Saying
  TooLarge : (nodes : ℕ) → Saying
  TooDeep : (depth : ℕ) → Saying
  Accepted : (next : Tree) → Cost → Saying

-- sizes as they are told
abbrev pub saying_of : Judgement → Saying
saying_of (judgement.Refused condition place) = Refused condition place
saying_of (judgement.TooLarge nodes) = TooLarge (told nodes)
saying_of (judgement.TooDeep depth) = TooDeep (told depth)
saying_of (judgement.Accepted next cost) = Accepted next (cost_of cost)

abbrev pub saying_by : (number equivalence : ℕ) → Outcome → Saying
saying_by number e (outcome.Refused condition place) = Refused condition place
saying_by number e (outcome.TooLarge nodes) = TooLarge nodes
saying_by number e (outcome.TooDeep depth) = TooDeep depth
saying_by number e (outcome.Accepted next) = Accepted next (advantage_of number e)

-- where these queries are closed, and this is the step's number in the proof

abbrev pub MaySay : Scene → (closed : List ℕ) → (number : ℕ) → (step : Tree) → Option StepItems → Saying → Type 0
MaySay s closed number t (Some (items.Crypto e x)) w = (o : Outcome) × IsOutcome s e x o × (w ≡ saying_by number e o)
MaySay s closed number t other w = w ≡ saying_of (judgement_in s closed t)

abbrev pub IsSaid : Scene → (closed : List ℕ) → (number : ℕ) → (step : Tree) → Saying → Type 0
IsSaid s closed number t w = MaySay s closed number t (items_of_step t) w
