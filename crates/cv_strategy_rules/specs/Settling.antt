-- The step that settles a game: of the candidates, in their order, the first one that is legal by some derivation and lowers the measure. A game
-- is settled where there is none. This profile's own.
use Rattle.std.specs.Prelude.{◌≡◌, true, List, ◌∷◌, ◌++◌, map, Some}
use Rattle.std.specs.List.{AllByRecursion}
use Rattle.cv_syntax_trees.specs.Tree.{Tree, chain}
use Rattle.cv_scene.specs.Pruning.{Branch, Else, Part, Then}
use Rattle.cv_scene.specs.Scenes.{Scene}
use Rattle.cv_script.specs.declared.views.Part.{Part as Written}
use Rattle.cv_script.specs.declared.views.Part.TheVariants as written
use Rattle.cv_script.specs.Steps.{number}
use Rattle.cv_script.specs.Views.{StepItems, items_of_step}
use Rattle.cv_script.specs.Views as items
use Rattle.cv_steps.specs.Elementary.{prune_step, rewrite_step, unlet_step, unnew_step}
use Rattle.cv_steps.specs.Steps.{Step}
use Rattle.cv_rule_birthday.specs.Row.{birthday_step}
use Rattle.cv_rule_birthday.specs.guess.Row.{guess_step}
use Rattle.cv_rule_fresh.specs.collisions.Fresh.{fresh_step}
use Rattle.cv_rule_move.specs.merge.Row.{merge_step}
use Rattle.cv_settling_rules.specs.Candidates.{Birthday, Candidate, Fresh, Guess, Merge, Prune, Rewrite, Unlet, Unnew}
use Rattle.cv_settling_rules.specs.Measure.{lowers}
use Rattle.cv_settling_rules.specs.Order.{candidates}
use Rattle.cv_strategy_rules.specs.Legal.{IsLegal, LeadsTo}

-- the step of a candidate; where one goes by a derivation, this is it
abbrev pub step_of : Candidate → (by : Tree) → Step
step_of (Prune p part) by = prune_step p part by
step_of (Merge p) by = merge_step p
step_of (Unnew x) by = unnew_step x
step_of (Unlet x) by = unlet_step x
step_of (Rewrite p m) by = rewrite_step p m by
step_of (Birthday x ps) by = birthday_step x ps
step_of (Guess x ps) by = guess_step x ps
step_of (Fresh p) by = fresh_step p

-- it leads to a game that is lower, if it is a game
pub record MaySettle (s : Scene) (c : Candidate) : Type 0 where
  pub by : Tree
  pub next : Tree
  pub leads : LeadsTo s (step_of c by) next
  pub lower : lowers s next ≡ true

-- and it is one
pub record Settles (s : Scene) (c : Candidate) : Type 0 where
  pub by : Tree
  pub next : Tree
  pub legal : IsLegal s (step_of c by) next
  pub lower : lowers s next ≡ true

-- among the candidates this one stands behind these, none of which settles the game
pub record IsBehind (s : Scene) (c : Candidate) : Type 0 where
  pub before : List Candidate
  pub after : List Candidate
  pub all : candidates s ≡ before ++ c ∷ after
  pub none : AllByRecursion (λ d. Settles s d → ⊥) before

-- the first that does
pub record IsFirst (s : Scene) (c : Candidate) : Type 0 where
  pub behind : IsBehind s c
  pub settles : Settles s c

abbrev pub IsSettled : Scene → Type 0
IsSettled s = AllByRecursion (λ c. Settles s c → ⊥) (candidates s)

-- trees of steps

abbrev pub written_part : Part → Written
written_part Then = written.Then
written_part Else = written.Else
written_part (Branch k) = written.Branch k

abbrev pub items_of : Candidate → (by : Tree) → StepItems
items_of (Prune p part) by = items.Prune p (written_part part) by
items_of (Merge p) by = items.Merge p
items_of (Unnew x) by = items.Unnew x
items_of (Unlet x) by = items.Unlet x
items_of (Rewrite p m) by = items.Rewrite p m by
items_of (Birthday x ps) by = items.Birthday x (chain (map number ps))
items_of (Guess x ps) by = items.Guess x (chain (map number ps))
items_of (Fresh p) by = items.Fresh p

-- the tree is a step of the candidate, whatever its derivation is
abbrev pub IsOf : Candidate → (step : Tree) → Type 0
IsOf c t = (by : Tree) × (items_of_step t ≡ Some (items_of c by))
