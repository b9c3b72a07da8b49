use Rattle.std.proofs.Common.{◌≡◌, subst, sym}
use Rattle.std.specs.Prelude.{IfOk}
use Rattle.cv_scene_view.specs.Kept.{scene_of}
use Rattle.cv_edit_places.specs.Plans.{failing}
use Rattle.cv_rule.specs.Stated.{IsLiveRule, step_of}
use Rattle.cv_rule.proofs.rules.unmet.Goals as goal

pub split_conditions-requires-clause-term : goal.split_conditions-requires-clause-term
split_conditions-requires-clause-term c =
    let trees = c.args.work.now.pool.trees in
    let live = subst (IsLiveRule trees) c.in-Split.is c.requires.rule in live.0

pub returns-in-Split : goal.returns-in-Split
returns-in-Split c =
    let trees = c.args.work.now.pool.trees in
    let s = scene_of c.args.work.now.pool c.args.work.now.decls c.args.game in
    subst (λ r. IfOk c.split_conditions.result (λ f. f ≡ failing ((step_of trees r).row s))) (sym c.in-Split.is) c.split_conditions.ensures

pub rewrite_conditions-requires-clause-term : goal.rewrite_conditions-requires-clause-term
rewrite_conditions-requires-clause-term c =
    let trees = c.args.work.now.pool.trees in
    let live = subst (IsLiveRule trees) c.in-Rewrite.is c.requires.rule in live.0.0

pub rewrite_conditions-requires-clause-by : goal.rewrite_conditions-requires-clause-by
rewrite_conditions-requires-clause-by c =
    let trees = c.args.work.now.pool.trees in
    let live = subst (IsLiveRule trees) c.in-Rewrite.is c.requires.rule in live.1

pub returns-in-Rewrite : goal.returns-in-Rewrite
returns-in-Rewrite c =
    let trees = c.args.work.now.pool.trees in
    let s = scene_of c.args.work.now.pool c.args.work.now.decls c.args.game in
    subst (λ r. IfOk c.rewrite_conditions.result (λ f. f ≡ failing ((step_of trees r).row s))) (sym c.in-Rewrite.is) c.rewrite_conditions.ensures

pub prune_conditions-requires-clause-by : goal.prune_conditions-requires-clause-by
prune_conditions-requires-clause-by c =
    let trees = c.args.work.now.pool.trees in
    let live = subst (IsLiveRule trees) c.in-Prune.is c.requires.rule in live

pub returns-in-Prune : goal.returns-in-Prune
returns-in-Prune c =
    let trees = c.args.work.now.pool.trees in
    let s = scene_of c.args.work.now.pool c.args.work.now.decls c.args.game in
    subst (λ r. IfOk c.prune_conditions.result (λ f. f ≡ failing ((step_of trees r).row s))) (sym c.in-Prune.is) c.prune_conditions.ensures
