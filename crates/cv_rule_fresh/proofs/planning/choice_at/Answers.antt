use Rattle.std.proofs.Common.{ap, subst, sym, ◌∙◌, Some}
use Rattle.cv_syntax.specs.PoolTrees.{tree_at}
use Rattle.cv_scene_view.specs.Kept.{scene_of}
use Rattle.cv_edit_places.specs.Plans.{failing}
use Rattle.cv_rule_fresh.specs.collisions.Fresh.{fresh_row_by, row_by_side}
use Rattle.cv_rule_fresh.specs.Looks.{IsChosen}
use Rattle.cv_rule_fresh.proofs.Planned.{both_fail}
use Rattle.cv_rule_fresh.proofs.planning.choice_at.Goals as goal

pub returns-in-Err-2 : goal.returns-in-Err-2
returns-in-Err-2 c =
    let w = c.args.work.now in
    let s = scene_of w.pool w.decls c.args.game in
    let p = c.args.place in
    let left = tree_at w.pool.trees c.in-Some.sides.left in
    let right = tree_at w.pool.trees c.in-Some.sides.right in
    let first = row_by_side s p left right in
    let second = row_by_side s p right left in
    ap (λ o. failing (fresh_row_by s p o)) (sym c.in-Some.ensures.sides)
    ∙ (both_fail first second c.in-Err.failure c.in-Err-2.second (subst (IsChosen s p first) c.in-Err.is c.in_ok-choice.ensures) (subst (IsChosen s p second) c.in-Err-2.is c.in_ok-choice-2.ensures)
    ∙ ap Some (sym c.later.ensures))
