use Rattle.std.proofs.Common.{◌≡◌, subst, sym}
use Rattle.std.specs.Prelude.{IfOk}
use Rattle.cv_scene_view.specs.Kept.{scene_of}
use Rattle.cv_rule.specs.Stated.{IsLiveRule, step_of}
use Rattle.cv_rule.proofs.rules.stands.Goals as goal

pub stands_at-requires-clause-term : goal.stands_at-requires-clause-term
stands_at-requires-clause-term c =
    let trees = c.args.work.now.pool.trees in
    let live = subst (IsLiveRule trees) c.in-Split.is c.requires.rule in live.0

pub stands_at-requires-clause-short : goal.stands_at-requires-clause-short
stands_at-requires-clause-short c =
    let trees = c.args.work.now.pool.trees in
    let live = subst (IsLiveRule trees) c.in-Split.is c.requires.rule in live.1

pub returns-in-Split : goal.returns-in-Split
returns-in-Split c =
    let trees = c.args.work.now.pool.trees in
    let s = scene_of c.args.work.now.pool c.args.work.now.decls c.args.game in
    subst (λ r. IfOk c.stands_at.result (λ b. b ≡ (step_of trees r).stands s)) (sym c.in-Split.is) c.stands_at.ensures

pub let_stands-requires-clause-term : goal.let_stands-requires-clause-term
let_stands-requires-clause-term c =
    let trees = c.args.work.now.pool.trees in
    let live = subst (IsLiveRule trees) c.in-Let.is c.requires.rule in live.0

pub let_stands-requires-clause-short : goal.let_stands-requires-clause-short
let_stands-requires-clause-short c =
    let trees = c.args.work.now.pool.trees in
    let live = subst (IsLiveRule trees) c.in-Let.is c.requires.rule in live.1

pub returns-in-Let : goal.returns-in-Let
returns-in-Let c =
    let trees = c.args.work.now.pool.trees in
    let s = scene_of c.args.work.now.pool c.args.work.now.decls c.args.game in
    subst (λ r. IfOk c.let_stands.result (λ b. b ≡ (step_of trees r).stands s)) (sym c.in-Let.is) c.let_stands.ensures

pub stands_at-requires-in-Rewrite-clause-term : goal.stands_at-requires-in-Rewrite-clause-term
stands_at-requires-in-Rewrite-clause-term c =
    let trees = c.args.work.now.pool.trees in
    let live = subst (IsLiveRule trees) c.in-Rewrite.is c.requires.rule in live.0.0

pub stands_at-requires-in-Rewrite-clause-short : goal.stands_at-requires-in-Rewrite-clause-short
stands_at-requires-in-Rewrite-clause-short c =
    let trees = c.args.work.now.pool.trees in
    let live = subst (IsLiveRule trees) c.in-Rewrite.is c.requires.rule in live.0.1

pub returns-in-Rewrite : goal.returns-in-Rewrite
returns-in-Rewrite c =
    let trees = c.args.work.now.pool.trees in
    let s = scene_of c.args.work.now.pool c.args.work.now.decls c.args.game in
    subst (λ r. IfOk c.stands_at-in-Rewrite.result (λ b. b ≡ (step_of trees r).stands s)) (sym c.in-Rewrite.is) c.stands_at-in-Rewrite.ensures
