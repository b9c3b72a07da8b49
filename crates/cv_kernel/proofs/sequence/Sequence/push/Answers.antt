use Rattle.std.proofs.Common.{ap, arith, length, refl, subst, sym, ◌≡◌, ◌∙◌, Err, Some}
use Rattle.std.specs.Prelude.{IfSome, OnOk, option_map}
use Rattle.cv_pool.specs.Nodes.{ChildBelow}
use Rattle.cv_syntax.specs.PoolTrees.{tree_at}
use Rattle.cv_scene_view.specs.Kept.{scene_of}
use Rattle.cv_script.specs.Views.{items_of_step, items_of_view}
use Rattle.cv_kernel_crypto.specs.Applied.{DrawsNext}
use Rattle.cv_kernel.specs.declared.reducing.Reducing.{Reducing}
use Rattle.cv_kernel.specs.declared.error.PushError.TheVariants as push
use Rattle.cv_kernel.specs.ClosingTrees.{closing_tree}
use Rattle.cv_kernel.specs.Closings.{closing_of_items}
use Rattle.cv_kernel.specs.Reducings.{reducing_of_items}
use Rattle.cv_kernel.specs.Rules.{rule_of_items}
use Rattle.cv_kernel.specs.Sequences.{IsPushed, game_in}
use Rattle.cv_kernel.specs.Steps.{IsShort, judgement_by}
use Rattle.cv_kernel.proofs.Answered.{closes_or_reduces, no_reducing, one_reducing}
use Rattle.cv_kernel.proofs.StepAnswers.{by_items, closing_pushed, few_reduced, few_ruled, memory_pushed, nothing_in, reducing_pushed, rule_pushed, short_by}
use Rattle.cv_kernel.proofs.Pushes.{few_pushed, ok_trees, pushed, settled_trees}
use Rattle.cv_kernel.proofs.Settled.{stands_settled}
use Rattle.cv_kernel.proofs.sequence.Sequence.push.Goals as goal
use Rattle.cv_edit_changes.proofs.unletting.Substituted.{none_found}

pub returns-in_default-clause-pushed : goal.returns-in_default-clause-pushed
returns-in_default-clause-pushed c =
    let pool = c.args.work.now.pool in
    let t = tree_at pool.trees (Some c.args.step.0) in
    let old = c.args.self.now in
    let decls = c.args.work.now.decls in
    let none = none_found _ _ _ c.view.ensures.items c.in_default.is in
    subst (λ e. IsPushed pool decls pool.trees old old t (Err e)) (sym c.refused.ensures)
    (rule_pushed pool decls pool.trees old old t (Err (push.Refused (record { condition = 0; place = 0 }))) (nothing_in closing_of_items t none) (nothing_in reducing_of_items t none) (omega (arith, c.if-self-ge-MOST_STEPS.false))
    (ap (judgement_by (scene_of pool decls old.game.root)) (nothing_in rule_of_items t none)))

pub returns-in-Some-closing_by-clause-pushed : goal.returns-in-Some-closing_by-clause-pushed
returns-in-Some-closing_by-clause-pushed c =
    let pool = c.args.work.now.pool in
    let t = tree_at pool.trees (Some c.args.step.0) in
    let i = items_of_view pool.trees c.in-Some.items in
    let is : Some i ≡ items_of_step t = ap (option_map (items_of_view pool.trees)) (sym c.in-Some.is) ∙ c.view.ensures.items in
    let closing = closing_tree pool.trees c.in-Some-closing_by.closing in
    closing_pushed pool c.args.work.now.decls c.close.new.work.pool.trees c.args.self.now c.close.new.self t c.close.result closing
    (by_items t i is closing_of_items (Some closing) (ap (option_map (closing_tree pool.trees)) (sym c.in-Some-closing_by.is) ∙ c.closing_by.ensures.closing pool.trees)) (omega (arith, c.if-self-ge-MOST_STEPS.false)) c.close.ensures.answer

pub returns-in-Some-reducing_by-clause-pushed : goal.returns-in-Some-reducing_by-clause-pushed
returns-in-Some-reducing_by-clause-pushed c =
    let pool = c.args.work.now.pool in
    let t = tree_at pool.trees (Some c.args.step.0) in
    let i = items_of_view pool.trees c.in-Some.items in
    let is : Some i ≡ items_of_step t = ap (option_map (items_of_view pool.trees)) (sym c.in-Some.is) ∙ c.view.ensures.items in
    let d = c.in-Some-reducing_by.reducing in
    reducing_pushed pool c.args.work.now.decls c.reduce.new.work.pool.trees c.args.self.now c.reduce.new.self t c.reduce.result d
    (by_items t i is reducing_of_items (Some d) (sym c.in-Some-reducing_by.is ∙ c.reducing_by.ensures pool.trees)) (omega (arith, c.if-self-ge-MOST_STEPS.false)) c.reduce.ensures.answer

pub returns-in-Some-reducing_by-clause-few : goal.returns-in-Some-reducing_by-clause-few
returns-in-Some-reducing_by-clause-few c =
    let pool = c.args.work.now.pool in
    let t = tree_at pool.trees (Some c.args.step.0) in
    let i = items_of_view pool.trees c.in-Some.items in
    let is : Some i ≡ items_of_step t = ap (option_map (items_of_view pool.trees)) (sym c.in-Some.is) ∙ c.view.ensures.items in
    let d = c.in-Some-reducing_by.reducing in
    few_reduced pool c.args.work.now.decls c.reduce.new.work.pool.trees c.args.self.now c.reduce.new.self t d
    (by_items t i is reducing_of_items (Some d) (sym c.in-Some-reducing_by.is ∙ c.reducing_by.ensures pool.trees)) c.reduce.result c.reduce.ensures.answer

pub returns-in_err-prepare-clause-pushed : goal.returns-in_err-prepare-clause-pushed
returns-in_err-prepare-clause-pushed c =
    let pool = c.args.work.now.pool in
    let t = tree_at pool.trees (Some c.args.step.0) in
    let i = items_of_view pool.trees c.in-Some.items in
    let is : Some i ≡ items_of_step t = ap (option_map (items_of_view pool.trees)) (sym c.in-Some.is) ∙ c.view.ensures.items in
    let unclosed = sym (by_items t i is closing_of_items _ (ap (option_map (closing_tree pool.trees)) (sym c.in_default-closing_by.is) ∙ c.closing_by.ensures.closing pool.trees)) in
    let unreduced = sym (by_items t i is reducing_of_items _ (sym c.in_default-reducing_by.is ∙ c.reducing_by.ensures pool.trees)) in
    memory_pushed pool c.args.work.now.decls pool.trees c.args.self.now c.prepare.new.self t unclosed unreduced (omega (arith, c.if-self-ge-MOST_STEPS.false)) _ c.from_residual.ensures.1

pub returns-clause-pushed : goal.returns-clause-pushed
returns-clause-pushed c =
    let pool = c.args.work.now.pool in
    let t = tree_at pool.trees (Some c.args.step.0) in
    let i = items_of_view pool.trees c.in-Some.items in
    let is : Some i ≡ items_of_step t = ap (option_map (items_of_view pool.trees)) (sym c.in-Some.is) ∙ c.view.ensures.items in
    let unclosed = sym (by_items t i is closing_of_items _ (ap (option_map (closing_tree pool.trees)) (sym c.in_default-closing_by.is) ∙ c.closing_by.ensures.closing pool.trees)) in
    let unreduced = sym (by_items t i is reducing_of_items _ (sym c.in_default-reducing_by.is ∙ c.reducing_by.ensures pool.trees)) in
    pushed pool c.args.work.now.decls c.advance-outcome.new.work.pool.trees c.settle.new.pool.trees c.args.self.now c.prepare.new.self c.advance-outcome.new.self t (rule_of_items i) c.prepare.ensures.same (sym (by_items t i is rule_of_items (rule_of_items i) refl)) unclosed unreduced
    (omega (arith, c.if-self-ge-MOST_STEPS.false)) c.advance-outcome.result c.settle.result c.settle.ensures.same (settled_trees c.advance-outcome.result c.settle.result c.advance-outcome.new.work.pool.trees c.settle.new.pool.trees c.settle.ensures.same (ok_trees c.settle.result _ _ c.settle.ensures.ok)) c.advance-outcome.ensures.advanced

pub returns-clause-few : goal.returns-clause-few
returns-clause-few c =
    let pool = c.args.work.now.pool in
    let t = tree_at pool.trees (Some c.args.step.0) in
    let i = items_of_view pool.trees c.in-Some.items in
    let is : Some i ≡ items_of_step t = ap (option_map (items_of_view pool.trees)) (sym c.in-Some.is) ∙ c.view.ensures.items in
    let unreduced = sym (by_items t i is reducing_of_items _ (sym c.in_default-reducing_by.is ∙ c.reducing_by.ensures pool.trees)) in
    few_ruled (scene_of pool c.args.work.now.decls c.args.self.now.game.root) t _ _ _ c.settle.result unreduced
    (few_pushed pool c.args.work.now.decls c.advance-outcome.new.work.pool.trees c.settle.new.pool.trees c.args.self.now c.prepare.new.self c.advance-outcome.new.self t (rule_of_items i) c.prepare.ensures.same (sym (by_items t i is rule_of_items (rule_of_items i) refl))
    c.advance-outcome.result c.settle.result c.settle.ensures.same (settled_trees c.advance-outcome.result c.settle.result c.advance-outcome.new.work.pool.trees c.settle.new.pool.trees c.settle.ensures.same (ok_trees c.settle.result _ _ c.settle.ensures.ok)) c.advance-outcome.ensures.few)

pub returns-clause-stands : goal.returns-clause-stands
returns-clause-stands c =
    stands_settled c.args.work.now.pool c.advance-outcome.new.work.pool c.settle.new.pool c.args.work.now.decls c.advance-outcome.new.work.decls c.prepare.new.self c.advance-outcome.new.self c.advance-outcome.result c.settle.result c.mark-before.result.0 c.prepare.ensures.stands c.mark-before.ensures c.advance-outcome.ensures.grows c.advance-outcome.ensures.decls c.settle.ensures.same c.advance-outcome.ensures.stands c.advance-outcome.ensures.same c.settle.ensures.ok c.settle.ensures.back

pub close-requires-clause-live : goal.close-requires-clause-live
close-requires-clause-live c =
    let n = length c.args.work.now.pool.trees in
    subst (λ o. IfSome o (λ q. ChildBelow n q.certificate)) c.in-Some-closing_by.is (c.closing_by.ensures.live n c.in-Some.ensures.live)

pub close-requires-clause-short : goal.close-requires-clause-short
close-requires-clause-short c =
    let trees = c.args.work.now.pool.trees in
    let t = tree_at trees (Some c.args.step.0) in
    let i = items_of_view trees c.in-Some.items in
    let is : Some i ≡ items_of_step t = ap (option_map (items_of_view trees)) (sym c.in-Some.is) ∙ c.view.ensures.items in
    subst (λ o. IfSome o (λ q. IsShort (tree_at trees q.certificate))) c.in-Some-closing_by.is (c.closing_by.ensures.short trees (short_by t i is c.requires.short))

pub advance-outcome-requires-clause-short : goal.advance-outcome-requires-clause-short
advance-outcome-requires-clause-short c =
    let trees = c.args.work.now.pool.trees in
    let t = tree_at trees (Some c.args.step.0) in
    let i = items_of_view trees c.in-Some.items in
    let is : Some i ≡ items_of_step t = ap (option_map (items_of_view trees)) (sym c.in-Some.is) ∙ c.view.ensures.items in
    short_by t i is c.requires.short

pub returns-in-Some-closing_by-clause-drawn : goal.returns-in-Some-closing_by-clause-drawn
returns-in-Some-closing_by-clause-drawn c = λ q k.
    let trees = c.args.work.now.pool.trees in
    let t = tree_at trees (Some c.args.step.0) in
    let i = items_of_view trees c.in-Some.items in
    let is : Some i ≡ items_of_step t = ap (option_map (items_of_view trees)) (sym c.in-Some.is) ∙ c.view.ensures.items in
    let closing = closing_tree trees c.in-Some-closing_by.closing in
    absurd (closes_or_reduces (items_of_step t) closing q (by_items t i is closing_of_items (Some closing) (ap (option_map (closing_tree trees)) (sym c.in-Some-closing_by.is) ∙ c.closing_by.ensures.closing trees)) k)

pub returns-in-Some-reducing_by-clause-drawn : goal.returns-in-Some-reducing_by-clause-drawn
returns-in-Some-reducing_by-clause-drawn c = λ q k.
    let w = c.args.work.now in
    let after = c.reduce.new.work in
    let t = tree_at w.pool.trees (Some c.args.step.0) in
    let i = items_of_view w.pool.trees c.in-Some.items in
    let is : Some i ≡ items_of_step t = ap (option_map (items_of_view w.pool.trees)) (sym c.in-Some.is) ∙ c.view.ensures.items in
    let reduces = by_items t i is reducing_of_items (Some c.in-Some-reducing_by.reducing) (sym c.in-Some-reducing_by.is ∙ c.reducing_by.ensures w.pool.trees) in
    subst (λ (p : Reducing). OnOk c.reduce.result (DrawsNext w.names after.names w.decls.own (scene_of w.pool w.decls c.args.self.now.game.root) p.equivalence p.key (game_in after.pool.trees c.reduce.new.self))) (one_reducing _ _ (reduces ∙ k)) c.reduce.ensures.drawn

pub returns-clause-drawn : goal.returns-clause-drawn
returns-clause-drawn c = λ q k.
    let trees = c.args.work.now.pool.trees in
    let t = tree_at trees (Some c.args.step.0) in
    let i = items_of_view trees c.in-Some.items in
    let is : Some i ≡ items_of_step t = ap (option_map (items_of_view trees)) (sym c.in-Some.is) ∙ c.view.ensures.items in
    absurd (no_reducing q (sym (by_items t i is reducing_of_items _ (sym c.in_default-reducing_by.is ∙ c.reducing_by.ensures trees))) k)

pub returns-in-Some-reducing_by-clause-alone : goal.returns-in-Some-reducing_by-clause-alone
returns-in-Some-reducing_by-clause-alone c = λ n.
    let trees = c.args.work.now.pool.trees in
    let t = tree_at trees (Some c.args.step.0) in
    let i = items_of_view trees c.in-Some.items in
    let is : Some i ≡ items_of_step t = ap (option_map (items_of_view trees)) (sym c.in-Some.is) ∙ c.view.ensures.items in
    absurd (no_reducing c.in-Some-reducing_by.reducing n (sym (by_items t i is reducing_of_items (Some c.in-Some-reducing_by.reducing) (sym c.in-Some-reducing_by.is ∙ c.reducing_by.ensures trees))))
