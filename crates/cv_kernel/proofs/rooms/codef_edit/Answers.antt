use Rattle.std.proofs.Common.{arith, refl, subst, Some}
use Rattle.std.proofs.lemmas.Bool.{and_left}
use Rattle.cv_syntax.specs.PoolTrees.{tree_at}
use Rattle.cv_scene.specs.Scenes.{has_place, part_at}
use Rattle.cv_scene_view.specs.Kept.{scene_of}
use Rattle.cv_rule_codef.specs.Needs.{made_of_codef, need_codef}
use Rattle.cv_rule_codef.specs.Row.{codef_step}
use Rattle.cv_script.specs.Views as items
use Rattle.cv_kernel.specs.Answers.{IsEditPlan}
use Rattle.cv_kernel.specs.Rules.{rule_of_items}
use Rattle.cv_kernel.proofs.Nodes.{size_nodes}
use Rattle.cv_kernel.proofs.Planned.{absent, unplaced}
use Rattle.cv_kernel.proofs.rooms.codef_edit.Goals as goal

pub plan-requires-clause-short : goal.plan-requires-clause-short
plan-requires-clause-short c = omega (arith, c.requires.short, size_nodes (tree_at c.args.work.now.pool.trees (Some c.args.to)))

pub returns-in_err-place : goal.returns-in_err-place
returns-in_err-place c =
    let pool = c.args.work.now.pool in
    let s = scene_of pool c.args.work.now.decls c.args.game in
    unplaced pool.trees s _ _ _ c.from_residual.ensures.1 c.in_err-place.ensures.fault (and_left (has_place s c.args.number) _ (absent c.args.number s (omega (arith, c.requires.small, c.in_err-place.ensures.outside))))

pub returns : goal.returns
returns c =
    let pool = c.args.work.now.pool in
    let s = scene_of pool c.args.work.now.decls c.args.game in
    let p = c.in_ok-place.place in
    let to = tree_at pool.trees (Some c.args.to) in
    let from = tree_at pool.trees (Some c.args.from) in
    subst (λ q. IsEditPlan pool.trees s (rule_of_items (items.Codef q c.args.adds to from c.args.above)) c.at.result) c.in_ok-place.ensures.place
    (c.at.ensures pool.trees s (record { step = codef_step p c.args.adds c.args.above to from; need = need_codef p c.args.adds to }) (made_of_codef c.args.adds to (part_at s.game p)) c.in_ok-planned.ensures refl)
