-- The rules of steps: the step that items name, and for how many nodes the pool is asked where its conditions hold. This profile's own.
use Rattle.std.specs.Prelude.{ℕ, Option, Some, None, option_and_then}
use Rattle.cv_syntax_trees.specs.Tree.{Tree}
use Rattle.cv_scene.specs.Pruning.{Part, Then, Else, Branch}
use Rattle.cv_script.specs.declared.views.Part.{Part as Written}
use Rattle.cv_script.specs.declared.views.Part.TheVariants as written
use Rattle.cv_script.specs.Views.{StepItems, items_of_step}
use Rattle.cv_script.specs.Views as items
use Rattle.cv_steps.specs.Elementary.{let_step, new_step, prune_step, rename_step, rewrite_step, split_step, unlet_step, unnew_step}
use Rattle.cv_steps.specs.Steps.{Step}
use Rattle.cv_edit_places.specs.Changes.{need_at}
use Rattle.cv_edit_places.specs.Dropping.{need_without}
use Rattle.cv_edit_changes.specs.pruning.Bodies as pruning
use Rattle.cv_edit_changes.specs.renaming.Needs.{need_renaming}
use Rattle.cv_edit_changes.specs.unletting.Games.{need_unletting}
use Rattle.cv_edit_names.specs.Needs.{need_splitting}
use Rattle.cv_rule_array_names.specs.Row.{array_names_step}
use Rattle.cv_rule_array_names.specs.Sites.{listed_names}
use Rattle.cv_rule_birthday.specs.Needs.{need_comparing}
use Rattle.cv_rule_birthday.specs.Row.{birthday_step}
use Rattle.cv_rule_codef.specs.Needs.{need_codef}
use Rattle.cv_rule_codef.specs.Row.{codef_step}
use Rattle.cv_rule_fresh.specs.collisions.Fresh.{fresh_step}
use Rattle.cv_rule_birthday.specs.guess.Needs.{need_guessing}
use Rattle.cv_rule_birthday.specs.guess.Row.{guess_step}
use Rattle.cv_rule_move.specs.merge.Row.{merge_step, need_merging}
use Rattle.cv_rule_move.specs.Steps.{move_step, need_moving}
use Rattle.cv_rule_pick.specs.Needs.{need_picking}
use Rattle.cv_rule_pick.specs.Row.{pick_step}
use Rattle.cv_kernel.specs.Places.{listed_numbers}

pub record Rule : Type 0 where
  pub step : Step
  pub need : Tree → ℕ

-- the body that a text names
abbrev pub part_of : Written → Part
part_of written.Then = Then
part_of written.Else = Else
part_of (written.Branch k) = Branch k

-- The rule of a step with these items. A `crypto` is taken by an equivalence and a `success` closes a query, so these have none; nor has a
-- `simplify`, for which other steps stand.
abbrev pub rule_of_items : StepItems → Option Rule
rule_of_items (items.Split p m) = Some (record { step = split_step p m; need = need_at p 3 })
rule_of_items (items.Let p x T m) = Some (record { step = let_step p x T m; need = need_at p 1 })
rule_of_items (items.New p x T) = Some (record { step = new_step p x T; need = need_at p 1 })
rule_of_items (items.Unnew x) = Some (record { step = unnew_step x; need = need_without x })
rule_of_items (items.Rename x y) = Some (record { step = rename_step x y; need = need_renaming x })
rule_of_items (items.Unlet x) = Some (record { step = unlet_step x; need = need_unletting x })
rule_of_items (items.Rewrite p m by) = Some (record { step = rewrite_step p m by; need = need_at p 0 })
rule_of_items (items.Prune p part by) = Some (record { step = prune_step p (part_of part) by; need = λ game. pruning.need_of game p (part_of part) })
rule_of_items (items.Move p) = Some (record { step = move_step p; need = need_moving p })
rule_of_items (items.Merge p) = Some (record { step = merge_step p; need = need_merging p })
rule_of_items (items.Codef p adds to from above) = Some (record { step = codef_step p adds above to from; need = need_codef p adds to })
rule_of_items (items.ArrayRename x to) = Some (record { step = array_names_step x (listed_names to); need = need_splitting x (listed_names to) })
rule_of_items (items.Pick p ms d e) = Some (record { step = pick_step p ms d e; need = need_picking p ms })
rule_of_items (items.Fresh p) = Some (record { step = fresh_step p; need = need_at p 1 })
rule_of_items (items.Birthday x at) = Some (record { step = birthday_step x (listed_numbers at); need = need_comparing (listed_numbers at) })
rule_of_items (items.Guess x at) = Some (record { step = guess_step x (listed_numbers at); need = need_guessing x (listed_numbers at) })
rule_of_items other = None

-- a step that costs something isn't free
abbrev pub IsFree : StepItems → Type 0
IsFree (items.Fresh p) = ⊥
IsFree (items.Birthday x at) = ⊥
IsFree (items.Guess x at) = ⊥
IsFree i = Unit {0}

-- that of the step that a tree is
abbrev pub rule_in : Tree → Option Rule
rule_in t = option_and_then rule_of_items (items_of_step t)

-- for how many nodes the pool is asked by one, if there is one
abbrev pub needed_by : Tree → Option Rule → ℕ
needed_by game None = 0
needed_by game (Some r) = r.need game
