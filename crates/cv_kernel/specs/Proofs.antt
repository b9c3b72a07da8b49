-- Proofs by sequences of games: the trees of steps, with what each costs and the game that it leads to. Blanchet, TDSC 2008.
use Rattle.std.specs.Prelude.{◌≡◌, ℕ, suc, ◌+◌, ◌==◌, if◌then◌else◌, Bool, List, [], ◌∷◌, ◌++◌, length, Option, Some, None, option_map}
use Rattle.cv_syntax_trees.specs.Declarations.{Declaration}
use Rattle.cv_syntax_trees.specs.Tree.{Tree}
use Rattle.cv_bound.specs.declared.cost.Cost.{Cost as SumCost}
use Rattle.cv_bound.specs.declared.terms.Term.{Term}
use Rattle.cv_bound.specs.declared.costs.sums.Sums.{Sums}
use Rattle.cv_bound.specs.costs.Sums.{no_sums, sum_for, with_cost}
use Rattle.cv_context.specs.products.Shapes.{Shape, shape_of}
use Rattle.cv_scene.specs.Scenes.{Scene}
use Rattle.cv_script.specs.Views.{StepItems, items_of_step}
use Rattle.cv_script.specs.Views as items
use Rattle.cv_steps.specs.Sequences.{scene}
use Rattle.cv_steps_laws.specs.crypto.Conditions.{equivalence_of}
use Rattle.cv_kernel.specs.Closings.{Closing, closing_in, is_of_secrecy}
use Rattle.cv_kernel.specs.Sayings.{Accepted, IsSaid}
use Rattle.cv_kernel.specs.Sequences.{needed_for}

-- a step that closes a query leads to the same game; a cryptographic step has a context of this shape
pub record Transition : Type 0 where
  pub step : Tree
  pub cost : SumCost
  pub context : Option Shape
  pub next : Tree

-- the shape of a step's context in a game, where the step is a cryptographic one

abbrev pub shape_by : Scene → Option StepItems → Option Shape
shape_by s (Some (items.Crypto e x)) = option_map (λ t. shape_of s t x) (equivalence_of s e)
shape_by s other = None

abbrev pub shape_at : Scene → (step : Tree) → Option Shape
shape_at s t = shape_by s (items_of_step t)

-- the numbers of the queries that transitions close, in order

abbrev pub number_before : Option Closing → List ℕ → List ℕ
number_before None ks = ks
number_before (Some c) ks = c.query ∷ ks

abbrev pub closed_by : List Transition → List ℕ
closed_by [] = []
closed_by (t ∷ ts) = number_before (closing_in t.step) (closed_by ts)

-- the game of its own that a step leads to: one that closes a query leads to none
abbrev pub game_behind : Option Closing → (next : Tree) → Option Tree
game_behind None next = Some next
game_behind (Some c) next = None

-- the step is accepted in a game, at this cost, where it has this number and these queries are closed, and leads to the next
pub record IsTransition (ds : List Declaration) (known : ℕ → Bool) (number : ℕ) (closed : List ℕ) (game : Tree) (t : Transition) : Type 0 where
  pub accepted : IsSaid (scene ds known game) closed number t.step (Accepted t.next t.cost)
  pub context : t.context ≡ shape_at (scene ds known game) t.step

-- From the first game the transitions lead to this game.
pub data IsProof (ds : List Declaration) (known : ℕ → Bool) (first : Tree) : List Transition → Tree → Type 0 where
  start : IsProof ds known first [] first
  push : (before : List Transition) (game : Tree) (t : Transition) → IsProof ds known first before game → IsTransition ds known (suc (length before)) (closed_by before) game t → IsProof ds known first (before ++ t ∷ []) t.next

-- how many nodes transitions may add to those of the first game
abbrev pub nodes_along : List Declaration → (known : ℕ → Bool) → (first : Tree) → List Transition → ℕ
nodes_along ds known first [] = 0
nodes_along ds known first (t ∷ ts) = needed_for (scene ds known first) t.step t.next (items_of_step t.step) + nodes_along ds known t.next ts

-- The sum of a query, where it is closed: the costs of the steps before the one that closes it, but for those of steps that close others,
-- and its own cost; for secrecy as sums of secrecy count them.

abbrev pub sums_behind : Sums → Option Closing → SumCost → Sums
sums_behind sums None cost = with_cost sums cost
sums_behind sums (Some c) cost = sums

abbrev pub sum_at : Sums → SumCost → (query : ℕ) → Option Closing → Option (List Term) → Option (List Term)
sum_at sums cost k None later = later
sum_at sums cost k (Some c) later = if c.query == k then Some (sum_for (is_of_secrecy c) (with_cost sums cost)) else later

abbrev pub sum_from : Sums → List Transition → (query : ℕ) → Option (List Term)
sum_from sums [] k = None
sum_from sums (t ∷ ts) k = sum_at sums t.cost k (closing_in t.step) (sum_from (sums_behind sums (closing_in t.step) t.cost) ts k)

abbrev pub sum_of : List Transition → (query : ℕ) → Option (List Term)
sum_of ts k = sum_from no_sums ts k
