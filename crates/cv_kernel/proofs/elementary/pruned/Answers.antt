use Rattle.std.proofs.Common.{arith, subst, Some}
use Rattle.cv_syntax.specs.PoolTrees.{tree_at}
use Rattle.cv_scene_view.specs.Kept.{scene_of}
use Rattle.cv_rule.proofs.Leading.{prune_stands_not}
use Rattle.cv_edit_changes.specs.pruning.Bodies.{need_of}
use Rattle.cv_rule.specs.declared.edit.edit.Edit.TheVariants as edit
use Rattle.cv_steps.specs.Elementary.{prune_step}
use Rattle.cv_kernel.specs.Answers.{IsEditPlan}
use Rattle.cv_kernel.specs.Rules.{part_of}
use Rattle.cv_kernel.proofs.Nodes.{lines_nodes}
use Rattle.cv_kernel.proofs.Planned.{plan_by, prune_edit, unplaced}
use Rattle.cv_kernel.proofs.elementary.pruned.Goals as goal

pub tested-requires-clause-rule : goal.tested-requires-clause-rule
tested-requires-clause-rule c =
    let by = tree_at c.args.work.now.pool.trees c.args.by in
    (c.requires.by, omega (arith, c.requires.lines, lines_nodes by))

pub returns-in_err-place : goal.returns-in_err-place
returns-in_err-place c =
    let pool = c.args.work.now.pool in
    let s = scene_of pool c.args.work.now.decls c.args.game in
    unplaced pool.trees s _ _ _ c.from_residual.ensures.1 c.in_err-place.ensures.fault (prune_stands_not s c.args.number (omega (arith, c.requires.small, c.in_err-place.ensures.outside)) (part_of c.args.part) (tree_at pool.trees c.args.by))

pub returns : goal.returns
returns c =
    let pool = c.args.work.now.pool in
    let s = scene_of pool c.args.work.now.decls c.args.game in
    let by = tree_at pool.trees c.args.by in
    let p = c.in_ok-place.place in
    subst (λ q. IsEditPlan pool.trees s (Some (record { step = prune_step q (part_of c.args.part) by; need = λ game. need_of game q (part_of c.args.part) })) c.tested.result) c.in_ok-place.ensures.place
    (subst (λ part. IsEditPlan pool.trees s (Some (record { step = prune_step p part by; need = λ game. need_of game p part })) c.tested.result) c.body_of-body.ensures
    (plan_by pool.trees s _ (edit.WithoutBody p c.body_of-body.result) c.tested.result c.tested.ensures.same c.tested.ensures.met c.tested.ensures.unmet (prune_edit pool.trees s p c.body_of-body.result by)))
