use Rattle.std.proofs.Common.{None, refl}
use Rattle.cv_scene_view.specs.Kept.{scene_of}
use Rattle.cv_scene.specs.Scenes.{is_new, is_output_at}
use Rattle.cv_steps.specs.Changes.{after_let, after_new, change_at}
use Rattle.cv_steps.specs.Steps.{Leads, Zero}
use Rattle.cv_rule.proofs.Rowed.{both_hold, first_fails, second_fails}
use Rattle.cv_rule.proofs.rules.definition_conditions.Goals as goal

pub returns-then-not-is_output_at-clause-of_let : goal.returns-then-not-is_output_at-clause-of_let
returns-then-not-is_output_at-clause-of_let c =
    let s = scene_of c.args.work.now.pool c.args.work.now.decls c.args.game in
    let p = c.args.place in
    let x = c.args.x in
    λ t m. first_fails (is_output_at s p) (is_new s x) (Leads (change_at s.game p (after_let x t m)) Zero) c.is_output_at.result c.is_output_at.ensures c.if-not-is_output_at.true

pub returns-then-not-is_new-clause-of_let : goal.returns-then-not-is_new-clause-of_let
returns-then-not-is_new-clause-of_let c =
    let s = scene_of c.args.work.now.pool c.args.work.now.decls c.args.game in
    let p = c.args.place in
    let x = c.args.x in
    λ t m. second_fails (is_output_at s p) (is_new s x) (Leads (change_at s.game p (after_let x t m)) Zero) c.is_output_at.result c.is_output_at.ensures c.if-not-is_output_at.false c.is_new.result c.is_new.ensures c.if-not-is_new.true

pub returns-clause-of_let : goal.returns-clause-of_let
returns-clause-of_let c =
    let s = scene_of c.args.work.now.pool c.args.work.now.decls c.args.game in
    let p = c.args.place in
    let x = c.args.x in
    λ t m. both_hold (is_output_at s p) (is_new s x) (Leads (change_at s.game p (after_let x t m)) Zero) c.is_output_at.result c.is_output_at.ensures c.if-not-is_output_at.false c.is_new.result c.is_new.ensures c.if-not-is_new.false None refl

pub returns-then-not-is_output_at-clause-of_new : goal.returns-then-not-is_output_at-clause-of_new
returns-then-not-is_output_at-clause-of_new c =
    let s = scene_of c.args.work.now.pool c.args.work.now.decls c.args.game in
    let p = c.args.place in
    let x = c.args.x in
    λ t. first_fails (is_output_at s p) (is_new s x) (Leads (change_at s.game p (after_new x t)) Zero) c.is_output_at.result c.is_output_at.ensures c.if-not-is_output_at.true

pub returns-then-not-is_new-clause-of_new : goal.returns-then-not-is_new-clause-of_new
returns-then-not-is_new-clause-of_new c =
    let s = scene_of c.args.work.now.pool c.args.work.now.decls c.args.game in
    let p = c.args.place in
    let x = c.args.x in
    λ t. second_fails (is_output_at s p) (is_new s x) (Leads (change_at s.game p (after_new x t)) Zero) c.is_output_at.result c.is_output_at.ensures c.if-not-is_output_at.false c.is_new.result c.is_new.ensures c.if-not-is_new.true

pub returns-clause-of_new : goal.returns-clause-of_new
returns-clause-of_new c =
    let s = scene_of c.args.work.now.pool c.args.work.now.decls c.args.game in
    let p = c.args.place in
    let x = c.args.x in
    λ t. both_hold (is_output_at s p) (is_new s x) (Leads (change_at s.game p (after_new x t)) Zero) c.is_output_at.result c.is_output_at.ensures c.if-not-is_output_at.false c.is_new.result c.is_new.ensures c.if-not-is_new.false None refl
