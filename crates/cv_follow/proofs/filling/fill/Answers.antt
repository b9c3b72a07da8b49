use Rattle.std.proofs.Common.{ap, arith, length, subst, sym, take, ◌≤◌, ◌∙◌, Some}
use Rattle.std.proofs.lemmas.List.{take_all}
use Rattle.cv_syntax.specs.PoolTrees.{tree_at}
use Rattle.cv_syntax.specs.declared.work.Game.{Game}
use Rattle.cv_script.specs.reader.Scripts.{trees_of}
use Rattle.cv_follow.specs.Courses.{PutsOn}
use Rattle.cv_follow.specs.Fillings.{Advances}
use Rattle.cv_follow.proofs.Fillings.{filled_all, filling_none, fills_broken, fills_step, fills_stop}
use Rattle.cv_follow.proofs.Tries.{may_begin}
use Rattle.cv_follow.proofs.filling.fill.Goals as goal

pub steps-init : goal.steps-init
steps-init g c =
    let work = c.args.work.now in
    let s = c.start-sequence in
    let same = ap (λ (q : Game). tree_at work.pool.trees (Some q.root)) s.ensures.game in
    let limit = c.requires.limit in
    let few = c.requires.steps.few in
    record {
      filling = filling_none work (tree_at work.pool.trees (Some c.args.game.root)) s.result (g.K.Sink.taken c.args.sink.now) (g.K.Sink.faults c.args.sink.now) c.args.stream.now s.ensures.steps s.ensures.sum s.ensures.closed same;
      again = may_begin work c.args.game s.result s.ensures.game s.ensures.arrays s.ensures.steps s.ensures.sum c.requires.game c.requires.small c.requires.formed c.requires.below c.requires.equivalences c.requires.limit;
      room = omega (arith, few, limit);
      steps = s.ensures.steps ∙ sym c.requires.begun;
    }

pub returns-in-Some : goal.returns-in-Some
returns-in-Some g c =
    let fn = c.args.work.now in
    let l = c.steps in
    let n = c.advance-end.new in
    let first = tree_at fn.pool.trees (Some c.args.game.root) in
    let at : length fn.pool.trees ≤ c.mark-mark.result.0 = omega (arith, c.mark-mark.ensures) in
    fills_stop fn l.work n.work first c.args.script.now c.requires.steps.live l.step-index _ c.steps-test.true l.sequence n.sequence (g.K.Sink.taken c.args.sink.now) (g.K.Sink.taken l.sink) (g.K.Sink.taken n.sink) (g.K.Sink.faults c.args.sink.now) (g.K.Sink.faults l.sink) (g.K.Sink.faults n.sink) c.args.stream.now l.stream n.stream l.invariant.filling c.requires.below c.mark-mark.result.0 at c.in-Some.status c.walk_with_status.result
    (subst (Advances c.mark-mark.result.0 l.work n.work _ l.sequence n.sequence (λ a b. PutsOn (g.K.Sink.taken l.sink) (g.K.Sink.taken n.sink) (g.K.Sink.faults l.sink) (g.K.Sink.faults n.sink) a b l.stream n.stream)) c.in-Some.is c.in-Ok.ensures.advanced) c.walk_with_status.ensures

pub returns-in_default : goal.returns-in_default
returns-in_default g c =
    let fn = c.args.work.now in
    let l = c.steps in
    let n = c.advance-end.new in
    let first = tree_at fn.pool.trees (Some c.args.game.root) in
    let at : length fn.pool.trees ≤ c.mark-mark.result.0 = omega (arith, c.mark-mark.ensures) in
    fills_broken fn l.work n.work first c.args.script.now c.requires.steps.live l.step-index (record { 0 = c.args.game.root }) c.steps-test.true l.sequence n.sequence (g.K.Sink.taken c.args.sink.now) (g.K.Sink.taken l.sink) (g.K.Sink.taken n.sink) (g.K.Sink.faults c.args.sink.now) (g.K.Sink.faults l.sink) (g.K.Sink.faults n.sink) c.args.stream.now l.stream n.stream l.invariant.filling c.requires.below c.mark-mark.result.0 at c.out_of_memory.result c.in_default.ensures.cut c.out_of_memory.ensures.status c.out_of_memory.ensures.verdicts

pub steps-preserved : goal.steps-preserved
steps-preserved g c =
    let fn = c.args.work.now in
    let l = c.steps in
    let n = c.advance-end.new in
    let first = tree_at fn.pool.trees (Some c.args.game.root) in
    let at : length fn.pool.trees ≤ c.mark-mark.result.0 = omega (arith, c.mark-mark.ensures) in
    record {
      filling = fills_step fn l.work n.work first c.args.script.now c.requires.steps.live l.step-index _ c.steps-test.true l.sequence n.sequence (g.K.Sink.taken c.args.sink.now) (g.K.Sink.taken l.sink) (g.K.Sink.taken n.sink) (g.K.Sink.faults c.args.sink.now) (g.K.Sink.faults l.sink) (g.K.Sink.faults n.sink) c.args.stream.now l.stream n.stream l.invariant.filling c.requires.below c.mark-mark.result.0 at (subst (Advances c.mark-mark.result.0 l.work n.work _ l.sequence n.sequence (λ a b. PutsOn (g.K.Sink.taken l.sink) (g.K.Sink.taken n.sink) (g.K.Sink.faults l.sink) (g.K.Sink.faults n.sink) a b l.stream n.stream)) c.in_default-end.is c.in-Ok.ensures.advanced);
      again = c.in-Ok.ensures.again;
      room = c.in-Ok.ensures.room;
      steps = c.in-Ok.ensures.steps;
    }

pub returns : goal.returns
returns g c =
    let fn = c.args.work.now in
    let l = c.steps in
    let trees = fn.pool.trees in
    filled_all fn l.work (tree_at trees (Some c.args.game.root)) l.sequence (trees_of trees (take l.step-index c.args.script.now)) (trees_of trees c.args.script.now) _ l.invariant.filling c.walk_to_end.result
    (ap (trees_of trees) (take_all l.step-index c.args.script.now (omega (arith, c.steps-test.false)))) c.walk_to_end.ensures
