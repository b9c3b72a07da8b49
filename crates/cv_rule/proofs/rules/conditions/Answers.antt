use Rattle.cv_scene_view.proofs.Tests.{ok_same}
use Rattle.cv_scene_view.specs.Kept.{scene_of}
use Rattle.cv_edit_places.specs.Plans.{failing, failure_of}
use Rattle.cv_rule.specs.Stated.{step_of}
use Rattle.cv_rule.proofs.Rowed.{not_there, there}
use Rattle.cv_rule.proofs.rules.conditions.Goals as goal

pub returns-then-not-branch : goal.returns-then-not-branch
returns-then-not-branch c =
    let trees = c.args.work.now.pool.trees in
    let s = scene_of c.args.work.now.pool c.args.work.now.decls c.args.game in
    let x = step_of trees c.args.rule in
    not_there (x.stands s) (x.row s) c.in_ok-stands.field-0 c.in_ok-stands.ensures c.if-not-branch.true

pub returns : goal.returns
returns c =
    let trees = c.args.work.now.pool.trees in
    let s = scene_of c.args.work.now.pool c.args.work.now.decls c.args.game in
    let x = step_of trees c.args.rule in
    ok_same c.unmet.result (failing (x.row s)) (failure_of s x) (there (x.stands s) (x.row s) c.in_ok-stands.field-0 c.in_ok-stands.ensures c.if-not-branch.false) c.unmet.ensures
