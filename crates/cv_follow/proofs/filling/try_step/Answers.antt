use Rattle.std.proofs.Common.{ap, subst, sym, ◌∙◌, Some}
use Rattle.cv_syntax.specs.PoolTrees.{tree_at}
use Rattle.cv_follow.specs.Fillings.{TakesOne}
use Rattle.cv_follow.proofs.Fillings.{settles_passed, settles_taken}
use Rattle.cv_follow.proofs.filling.try_step.Goals as goal

pub returns-in-None-clause-tried : goal.returns-in-None-clause-tried
returns-in-None-clause-tried c =
    let old = c.args.work.now in
    let n = c.take_step.new in
    let tree = tree_at old.pool.trees (Some c.args.step.0) in
    settles_taken old n.work c.args.step c.args.sequence.now n.sequence tree (sym c.settles.ensures ∙ c.if-not-settles.false)
    (subst (TakesOne old n.work c.args.step.0 tree c.args.sequence.now n.sequence) c.in-None.is c.in_ok-take_step.ensures.taken)

pub returns-in-Some-Limit-clause-tried : goal.returns-in-Some-Limit-clause-tried
returns-in-Some-Limit-clause-tried c =
    let old = c.args.work.now in
    let n = c.take_step.new in
    let tree = tree_at old.pool.trees (Some c.args.step.0) in
    rw c.in-Some-Limit.field-0-is
    (settles_passed old n.work c.args.step c.args.sequence.now n.sequence tree c.in-Some-Limit.which (sym c.settles.ensures ∙ c.if-not-settles.false)
    (subst (TakesOne old n.work c.args.step.0 tree c.args.sequence.now n.sequence) (c.in-Some-Limit.is ∙ ap Some c.in-Some-Limit.field-0-is) c.in_ok-take_step.ensures.taken))

pub returns-in-Some : goal.returns-in-Some
returns-in-Some c =
    let old = c.args.work.now in
    let n = c.take_step.new in
    let tree = tree_at old.pool.trees (Some c.args.step.0) in
    record {
      tried = (subst (TakesOne old n.work c.args.step.0 tree c.args.sequence.now n.sequence) c.in-Some.is c.in_ok-take_step.ensures.taken).0;
      again = c.in_ok-take_step.ensures.again;
      grown = c.take_step.ensures.grown;
      room = c.in_ok-take_step.ensures.room;
    }
