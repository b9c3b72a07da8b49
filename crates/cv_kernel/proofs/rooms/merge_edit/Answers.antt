use Rattle.std.proofs.Common.{arith, refl, subst}
use Rattle.cv_scene_view.specs.Kept.{scene_of}
use Rattle.cv_rule_move.specs.merge.Row.{merge_step, need_merging}
use Rattle.cv_script.specs.Views as items
use Rattle.cv_kernel.specs.Answers.{IsEditPlan}
use Rattle.cv_kernel.specs.Rules.{rule_of_items}
use Rattle.cv_kernel.proofs.Planned.{absent, unplaced}
use Rattle.cv_kernel.proofs.rooms.merge_edit.Goals as goal

pub returns-in_err-place : goal.returns-in_err-place
returns-in_err-place c =
    let pool = c.args.work.now.pool in
    let s = scene_of pool c.args.work.now.decls c.args.game in
    unplaced pool.trees s _ _ _ c.from_residual.ensures.1 c.in_err-place.ensures.fault (absent c.args.number s (omega (arith, c.requires.small, c.in_err-place.ensures.outside)))

pub returns : goal.returns
returns c =
    let pool = c.args.work.now.pool in
    let s = scene_of pool c.args.work.now.decls c.args.game in
    let p = c.in_ok-place.place in
    subst (λ q. IsEditPlan pool.trees s (rule_of_items (items.Merge q)) c.at.result) c.in_ok-place.ensures.place
    (c.at.ensures pool.trees s (record { step = merge_step p; need = need_merging p }) (0) c.in_ok-plan.ensures refl)
