use Rattle.std.proofs.Common.{length, subst, sym, ◌+◌, ◌≤◌}
use Rattle.std.specs.Prelude.{OnOk}
use Rattle.cv_scene_view.specs.Kept.{scene_of}
use Rattle.cv_script.specs.Views.{items_of_view}
use Rattle.cv_rule.specs.edit.Edits.{need_of}
use Rattle.cv_kernel.specs.Answers.{IsAnswer}
use Rattle.cv_kernel.specs.Rules.{needed_by, rule_of_items}
use Rattle.cv_kernel.specs.Steps.{judgement_by}
use Rattle.cv_kernel.proofs.Answers.{answer_through, can_be_made, planned_few, planned_judgement, planned_need, unplanned_answer}
use Rattle.cv_kernel.proofs.applying.attempt.Goals as goal

pub returns-in_err-planned-clause-answer : goal.returns-in_err-planned-clause-answer
returns-in_err-planned-clause-answer c =
    let pool = c.args.work.now.pool in
    let s = scene_of pool c.args.work.now.decls c.args.game in
    let o = rule_of_items (items_of_view pool.trees c.args.view) in
    answer_through pool.limit (length pool.trees) (needed_by s.game o) (judgement_by s o) pool.trees _ _ c.from_residual.ensures.1
    (unplanned_answer pool.limit (length pool.trees) (needed_by s.game o) (judgement_by s o) pool.trees c.in_err-planned.field-0.0 c.in_err-planned.ensures)

pub make-requires-clause-can : goal.make-requires-clause-can
make-requires-clause-can c =
    let pool = c.args.work.now.pool in
    let s = scene_of pool c.args.work.now.decls c.args.game in
    can_be_made pool.trees s c.in_ok-planned.planned (rule_of_items (items_of_view pool.trees c.args.view)) c.in_ok-planned.ensures

pub make-requires-clause-few : goal.make-requires-clause-few
make-requires-clause-few c =
    let pool = c.args.work.now.pool in
    let s = scene_of pool c.args.work.now.decls c.args.game in
    planned_few pool.trees s c.in_ok-planned.planned (rule_of_items (items_of_view pool.trees c.args.view)) c.in_ok-planned.ensures

pub returns-clause-answer : goal.returns-clause-answer
returns-clause-answer c =
    let pool = c.args.work.now.pool in
    let s = scene_of pool c.args.work.now.decls c.args.game in
    let o = rule_of_items (items_of_view pool.trees c.args.view) in
    let p = c.in_ok-planned.planned in
    let j = planned_judgement pool.trees s p o c.in_ok-planned.ensures in
    subst (λ n. IsAnswer pool.limit (length pool.trees) n (judgement_by s o) c.make.new.work.pool.trees c.make.result) (sym (planned_need pool.trees s p o c.in_ok-planned.ensures))
    (subst (λ k. IsAnswer pool.limit (length pool.trees) (need_of s.game p.edit) k c.make.new.work.pool.trees c.make.result) (sym j.2) (c.make.ensures.answer j.0 j.1))

pub returns-clause-few : goal.returns-clause-few
returns-clause-few c =
    let pool = c.args.work.now.pool in
    let s = scene_of pool c.args.work.now.decls c.args.game in
    let o = rule_of_items (items_of_view pool.trees c.args.view) in
    subst (λ n. OnOk c.make.result (length c.make.new.work.pool.trees ≤ length pool.trees + n)) (sym (planned_need pool.trees s c.in_ok-planned.planned o c.in_ok-planned.ensures)) c.make.ensures.few
