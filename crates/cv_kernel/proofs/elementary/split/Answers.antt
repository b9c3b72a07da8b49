use Rattle.std.proofs.Common.{arith, subst, Some}
use Rattle.cv_syntax.specs.PoolTrees.{tree_at}
use Rattle.cv_scene_view.specs.Kept.{scene_of}
use Rattle.cv_rule.proofs.Leading.{split_stands_not}
use Rattle.cv_edit_places.specs.declared.change.Change.TheVariants as change
use Rattle.cv_rule.specs.declared.edit.edit.Edit.TheVariants as edit
use Rattle.cv_script.specs.Views as items
use Rattle.cv_kernel.specs.Answers.{IsEditPlan}
use Rattle.cv_kernel.specs.Rules.{rule_of_items}
use Rattle.cv_kernel.proofs.Nodes.{size_nodes}
use Rattle.cv_kernel.proofs.Planned.{plan_by, split_edit, unplaced}
use Rattle.cv_kernel.proofs.elementary.split.Goals as goal

pub tested-requires-clause-rule : goal.tested-requires-clause-rule
tested-requires-clause-rule c =
    let t = tree_at c.args.work.now.pool.trees (Some c.args.condition) in
    (c.requires.live, omega (arith, c.requires.short, size_nodes t))

pub returns-in_err-place : goal.returns-in_err-place
returns-in_err-place c =
    let pool = c.args.work.now.pool in
    let s = scene_of pool c.args.work.now.decls c.args.game in
    unplaced pool.trees s _ _ _ c.from_residual.ensures.1 c.in_err-place.ensures.fault (split_stands_not s c.args.number (omega (arith, c.requires.small, c.in_err-place.ensures.outside)) (tree_at pool.trees (Some c.args.condition)))

pub returns : goal.returns
returns c =
    let pool = c.args.work.now.pool in
    let s = scene_of pool c.args.work.now.decls c.args.game in
    let m = c.args.condition in
    let p = c.in_ok-place.place in
    subst (λ q. IsEditPlan pool.trees s (rule_of_items (items.Split q (tree_at pool.trees (Some m)))) c.tested.result) c.in_ok-place.ensures.place
    (plan_by pool.trees s _ (edit.At p (change.Split m)) c.tested.result c.tested.ensures.same c.tested.ensures.met c.tested.ensures.unmet (split_edit pool.trees s c.requires.small p m c.requires.live c.requires.short))
