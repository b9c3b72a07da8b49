use Rattle.std.proofs.Common.{arith, refl, subst}
use Rattle.std.proofs.lemmas.Bool.{and_left}
use Rattle.cv_syntax.specs.PoolTrees.{tree_at}
use Rattle.cv_scene.specs.Scenes.{has_place}
use Rattle.cv_scene_view.specs.Kept.{scene_of}
use Rattle.cv_rule_pick.specs.Needs.{made_of_pick, need_picking}
use Rattle.cv_rule_pick.specs.Row.{pick_step}
use Rattle.cv_script.specs.Views as items
use Rattle.cv_kernel.specs.Answers.{IsEditPlan}
use Rattle.cv_kernel.specs.Rules.{rule_of_items}
use Rattle.cv_kernel.proofs.Nodes.{lines_nodes, size_nodes}
use Rattle.cv_kernel.proofs.Planned.{absent, unplaced}
use Rattle.cv_kernel.proofs.rooms.pick_edit.Goals as goal

pub plan-requires-clause-short : goal.plan-requires-clause-short
plan-requires-clause-short c = omega (arith, c.requires.short, size_nodes (tree_at c.args.work.now.pool.trees c.args.terms))

pub plan-requires-clause-at_body : goal.plan-requires-clause-at_body
plan-requires-clause-at_body c = (c.requires.at_body, omega (arith, c.requires.short_body, lines_nodes (tree_at c.args.work.now.pool.trees c.args.by.at_body)))

pub plan-requires-clause-at_find : goal.plan-requires-clause-at_find
plan-requires-clause-at_find c = (c.requires.at_find, omega (arith, c.requires.short_find, lines_nodes (tree_at c.args.work.now.pool.trees c.args.by.at_find)))

pub returns-in_err-place : goal.returns-in_err-place
returns-in_err-place c =
    let pool = c.args.work.now.pool in
    let s = scene_of pool c.args.work.now.decls c.args.game in
    unplaced pool.trees s _ _ _ c.from_residual.ensures.1 c.in_err-place.ensures.fault (and_left (has_place s c.args.number) _ (absent c.args.number s (omega (arith, c.requires.small, c.in_err-place.ensures.outside))))

pub returns : goal.returns
returns c =
    let pool = c.args.work.now.pool in
    let s = scene_of pool c.args.work.now.decls c.args.game in
    let p = c.in_ok-place.place in
    let ms = tree_at pool.trees c.args.terms in
    let d = tree_at pool.trees c.args.by.at_body in
    let e = tree_at pool.trees c.args.by.at_find in
    subst (λ q. IsEditPlan pool.trees s (rule_of_items (items.Pick q ms d e)) c.at.result) c.in_ok-place.ensures.place
    (c.at.ensures pool.trees s (record { step = pick_step p ms d e; need = need_picking p ms }) (made_of_pick p ms s.game) c.in_ok-planned.ensures refl)
