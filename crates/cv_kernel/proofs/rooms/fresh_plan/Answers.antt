use Rattle.std.proofs.Common.{arith, refl, subst, sym}
use Rattle.cv_scene_view.specs.Kept.{scene_of}
use Rattle.cv_script.specs.Views as items
use Rattle.cv_steps.specs.Judgements.{judgement_of}
use Rattle.cv_edit_places.specs.Changes.{need_at}
use Rattle.cv_rule_fresh.specs.collisions.Fresh.{fresh_step}
use Rattle.cv_kernel.specs.Answers.{IsPlan, IsUnplanned}
use Rattle.cv_kernel.specs.Rules.{rule_of_items}
use Rattle.cv_kernel.proofs.Answers.{plan_free}
use Rattle.cv_kernel.proofs.Planned.{absent, stands_not}
use Rattle.cv_kernel.proofs.rooms.fresh_plan.Goals as goal

pub returns-in_err-place : goal.returns-in_err-place
returns-in_err-place c =
    let pool = c.args.work.now.pool in
    let s = scene_of pool c.args.work.now.decls c.args.game in
    let x = fresh_step c.args.number in
    plan_free pool.trees s (rule_of_items (items.Fresh c.args.number)) _ c.in_err-place.field-0.0 c.from_residual.ensures.1
    (subst (IsUnplanned (judgement_of s x)) (sym c.in_err-place.ensures.fault) (stands_not pool.trees s x (x.stands s) refl (absent c.args.number s (omega (arith, c.requires.small, c.in_err-place.ensures.outside)))))

pub returns : goal.returns
returns c =
    let pool = c.args.work.now.pool in
    let s = scene_of pool c.args.work.now.decls c.args.game in
    let p = c.in_ok-place.place in
    subst (λ q. IsPlan pool.trees s (rule_of_items (items.Fresh q)) c.priced_at.result) c.in_ok-place.ensures.place
    (c.priced_at.ensures pool.trees s (record { step = fresh_step p; need = need_at p 1 }) 1 c.in_ok-plan.ensures refl)
