-- What a rule plans in a scene: the first condition of its step that fails, or how the game changes. This profile's own.
use Rattle.std.specs.Prelude.{◌≡◌, ℕ, ◌+◌, ◌<◌, ◌≤◌, ◌^◌, if◌then◌else◌, false, List, Option, Some, None, Result, Ok, Err}
use Rattle.cv_pool.specs.KindTree.{KindTree}
use Rattle.cv_syntax_trees.specs.Tree.{size}
use Rattle.cv_scene.specs.Scenes.{Scene, part_at}
use Rattle.cv_steps.specs.Changes.{change_at}
use Rattle.cv_bound.specs.Sums.{coefficients, terms_of}
use Rattle.cv_steps.specs.Costs.{cost_of}
use Rattle.cv_steps.specs.Steps.{Cost, Fails, Leads, Row, Step, Zero}
use Rattle.cv_edit_places.specs.Changes.{TermIsLive, change_of, nodes_of}
use Rattle.cv_edit_places.specs.declared.change.Change.{Change}
use Rattle.cv_edit_places.specs.declared.plan.Failure.{Failure}
use Rattle.cv_edit_places.specs.declared.plan.Priced.{Priced}

-- what a step adds at most to the coefficients of a sum: once for each place of a game
abbrev pub most_coefficients : ℕ
most_coefficients = 50000

abbrev pub failed : (condition place : ℕ) → Failure
failed condition place = record { condition = condition; place = place }

-- the first condition of a row that fails
abbrev pub failing : Row → Option Failure
failing (Fails condition place) = Some (failed condition place)
failing (Leads next cost) = None

-- that of a step: 0 where what it speaks of isn't there
abbrev pub failure_of : Scene → Step → Option Failure
failure_of s x = if x.stands s then failing (x.row s) else Some (failed 0 0)

-- A step whose conditions hold leads at a cost to the game with this change at a place of it, which makes so many nodes of the part.
pub record IsCostly (trees : List KindTree) (s : Scene) (x : Step) (p count : ℕ) (cost : Cost) (c : Change) : Type 0 where
  pub met : failure_of s x ≡ None
  pub leads : x.row s ≡ Leads (change_at s.game p (change_of trees c)) cost
  pub made : nodes_of c ≡ count
  pub live : TermIsLive trees c
  pub fits : size s.game + size (change_of trees c (part_at s.game p)) < 2 ^ 32
  pub there : p < size s.game

-- and without a cost
abbrev pub IsChange : List KindTree → Scene → Step → (place made : ℕ) → Change → Type 0
IsChange trees s x p count c = IsCostly trees s x p count Zero c

abbrev pub IsPlanned : List KindTree → Scene → Step → (place made : ℕ) → Result Change Failure → Type 0
IsPlanned trees s x p made (Err f) = failure_of s x ≡ Some f
IsPlanned trees s x p made (Ok c) = IsChange trees s x p made c

-- so with a cost, whose coefficients are few enough for sums

pub record IsPricedChange (trees : List KindTree) (s : Scene) (x : Step) (p made : ℕ) (c : Priced) : Type 0 where
  pub cost : Cost
  pub change : IsCostly trees s x p made cost c.change
  pub same : c.cost ≡ cost_of cost
  pub few : coefficients (terms_of c.cost false) ≤ most_coefficients

abbrev pub IsPriced : List KindTree → Scene → Step → (place made : ℕ) → Result Priced Failure → Type 0
IsPriced trees s x p made (Err f) = failure_of s x ≡ Some f
IsPriced trees s x p made (Ok c) = IsPricedChange trees s x p made c
