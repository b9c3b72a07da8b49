use Rattle.std.proofs.Common.{◌≤◌, ap, arith, length, subst, sym, take, ◌∙◌, Some}
use Rattle.std.proofs.lemmas.List.{take_all}
use Rattle.cv_syntax.specs.declared.work.Game.{Game}
use Rattle.cv_syntax.specs.PoolTrees.{tree_at}
use Rattle.cv_script.specs.reader.Scripts.{trees_of}
use Rattle.cv_follow.specs.Courses.{PutsCourse}
use Rattle.cv_follow.specs.declared.walk.Walk.{Walk}
use Rattle.cv_follow.specs.Walks.{IsWalk, stop_of}
use Rattle.cv_follow.proofs.Following.{asked, equivalences_kept}
use Rattle.cv_kernel.proofs.Followed.{counted_after, room_after}
use Rattle.cv_follow.proofs.Gone.{reached_so_far}
use Rattle.cv_follow.proofs.Left.{walk_ends, walk_out_of_memory}
use Rattle.cv_follow.proofs.Plain.{declared_stay, following_cut, following_more, following_none, following_stops, live_on}
use Rattle.cv_follow.proofs.Tries.{may_begin}
use Rattle.cv_follow.proofs.walk.follow.Goals.{in-None, in-Some}
use Rattle.cv_follow.proofs.walk.follow.Goals as goal

pub steps-init : goal.steps-init
steps-init g c =
    let work = c.args.work.now in
    let s = c.start-sequence in
    let same = ap (λ (q : Game). tree_at work.pool.trees (Some q.root)) s.ensures.game in
    let limit = c.requires.limit in
    let few = c.requires.steps.few in
    record {
      following = following_none work (tree_at work.pool.trees (Some c.args.game.root)) s.result (g.K.Sink.taken c.args.sink.now) (g.K.Sink.faults c.args.sink.now) c.args.stream.now s.ensures.steps s.ensures.sum s.ensures.closed same;
      stands = (may_begin work c.args.game s.result s.ensures.game s.ensures.arrays s.ensures.steps s.ensures.sum c.requires.game c.requires.small c.requires.formed c.requires.below c.requires.equivalences c.requires.limit).stands;
      room = omega (arith, few, limit);
      steps = s.ensures.steps ∙ sym c.requires.begun;
    }

pub push-requires-clause-declared : goal.push-requires-clause-declared
push-requires-clause-declared g c =
    let gone = c.steps.invariant.following.gone in
    declared_stay c.args.work.now c.steps.work gone.grows gone.decls c.requires.below

pub push-requires-clause-equivalences : goal.push-requires-clause-equivalences
push-requires-clause-equivalences g c =
    let gone = c.steps.invariant.following.gone in
    equivalences_kept c.args.work.now c.steps.work c.args.game.root c.steps.sequence.game.root gone.grows gone.decls c.requires.below c.requires.equivalences

pub go_on-requires-clause-step : goal.go_on-requires-clause-step
go_on-requires-clause-step g c =
    live_on c.args.work.now c.steps.work c.push.new.work _ (c.requires.steps.live c.steps.step-index _ c.steps-test.true) c.steps.invariant.following.gone.grows c.push.ensures.grows

pub returns-in-Err-go_on : goal.returns-in-Err-go_on
returns-in-Err-go_on g c =
    let fn = c.args.work.now in
    let l = c.steps in
    let i = l.invariant in
    let gone = i.following.gone in
    let first = tree_at fn.pool.trees (Some c.args.game.root) in
    let n = c.go_on.new in
    let at : length fn.pool.trees ≤ c.mark-mark.result.0 = omega (arith, c.mark-mark.ensures) in
    walk_out_of_memory (length fn.pool.trees) fn n.work first (trees_of fn.pool.trees c.args.script.now) (asked fn) _ c.out_of_memory.result
    (following_cut fn l.work first c.args.script.now c.requires.below c.requires.steps.live l.step-index _ c.steps-test.true l.sequence (g.K.Sink.taken c.args.sink.now) (g.K.Sink.taken l.sink) (g.K.Sink.faults c.args.sink.now) (g.K.Sink.faults l.sink) c.args.stream.now l.stream i.following
    c.push.new.work c.push.new.self _ c.in-Ok.ensures.pushed c.push.ensures.grows i.stands.live c.in-Ok.ensures.few c.push.ensures.names c.push.ensures.decls c.in-Ok.ensures.drawn c.push.ensures.alone
    c.mark-mark.result.0 at n.work (g.K.Sink.taken n.sink) (g.K.Sink.faults n.sink) n.stream c.go_on.ensures.stays c.go_on.ensures.names c.go_on.ensures.decls c.in-Err-go_on.ensures.cut)
    c.out_of_memory.ensures.status c.out_of_memory.ensures.verdicts

pub returns-in-Err : goal.returns-in-Err
returns-in-Err g c =
    let fn = c.args.work.now in
    let l = c.steps in
    let i = l.invariant in
    let gone = i.following.gone in
    let first = tree_at fn.pool.trees (Some c.args.game.root) in
    let new = c.push.new.work in
    let Puts = PutsCourse (g.K.Sink.taken c.args.sink.now) (g.K.Sink.taken l.sink) (g.K.Sink.faults c.args.sink.now) (g.K.Sink.faults l.sink) fn first c.args.stream.now l.stream in
    let Walks : Walk → Type 0 = IsWalk (length fn.pool.trees) fn new first (trees_of fn.pool.trees c.args.script.now) (asked fn) Puts in
    let same = c.in-Err.ensures.same in
    let count = sym (c.steps-in-Err.ensures ∙ same.steps) in
    elim c.match-stop_of.branch [
      | in-Some w ↦ subst Walks (sym w.result-is)
          (following_stops fn l.work first c.args.script.now c.requires.below c.requires.steps.live l.step-index _ c.steps-test.true l.sequence (g.K.Sink.taken c.args.sink.now) (g.K.Sink.taken l.sink) (g.K.Sink.faults c.args.sink.now) (g.K.Sink.faults l.sink) c.args.stream.now l.stream i.following
          new c.push.new.self c.in-Err.fault w.in-Some.status w.walk_with_status.result c.push.ensures.grows c.in-Err.ensures.kept (gone.grows.limit ∙ c.requires.limit) c.in-Err.ensures.pushed (ap (stop_of c.in-Err.fault) count ∙ sym w.in-Some.ensures) i.stands.live
          same.game same.steps same.sum same.closed c.in-Err.ensures.back c.push.ensures.decls w.walk_with_status.ensures)
      | in-None w ↦ subst Walks (sym w.result-is)
          (walk_out_of_memory (length fn.pool.trees) fn new first (trees_of fn.pool.trees c.args.script.now) (asked fn) Puts w.out_of_memory-in-None.result
          (reached_so_far fn l.work first l.sequence gone new Puts (record { grows = c.push.ensures.grows; names = c.push.ensures.names; decls = c.push.ensures.decls }) i.following.puts) w.out_of_memory-in-None.ensures.status w.out_of_memory-in-None.ensures.verdicts)
    ]

pub steps-preserved : goal.steps-preserved
steps-preserved g c =
    let fn = c.args.work.now in
    let l = c.steps in
    let i = l.invariant in
    let gone = i.following.gone in
    let first = tree_at fn.pool.trees (Some c.args.game.root) in
    let n = c.go_on.new in
    let mid = c.push.new.work in
    let at : length fn.pool.trees ≤ c.mark-mark.result.0 = omega (arith, c.mark-mark.ensures) in
    let ok = c.in-Ok-go_on.ensures in
    let few = c.in-Ok.ensures.few in
    let limit = gone.grows.limit ∙ c.requires.limit in
    let room = room_after l.work.pool l.work.decls mid.pool.trees l.sequence c.push.new.self _ _ c.in-Ok.ensures.pushed few (omega (arith, limit, i.room)) in
    let count = counted_after l.work.pool l.work.decls mid.pool.trees l.sequence c.push.new.self _ _ c.in-Ok.ensures.pushed in
    record {
      following =
          following_more fn l.work first c.args.script.now c.requires.below c.requires.steps.live l.step-index _ c.steps-test.true l.sequence (g.K.Sink.taken c.args.sink.now) (g.K.Sink.taken l.sink) (g.K.Sink.faults c.args.sink.now) (g.K.Sink.faults l.sink) c.args.stream.now l.stream i.following
          c.push.new.work c.push.new.self _ c.in-Ok.ensures.pushed c.push.ensures.grows i.stands.live c.in-Ok.ensures.few c.push.ensures.names c.push.ensures.decls c.in-Ok.ensures.drawn c.push.ensures.alone
          c.mark-mark.result.0 at n.work (g.K.Sink.taken n.sink) (g.K.Sink.faults n.sink) n.stream c.go_on.ensures.stays c.go_on.ensures.names c.go_on.ensures.decls n.sequence ok.puts ok.game ok.same c.go_on.ensures.few;
      stands = ok.stands;
      room = omega (arith, room, limit, c.go_on.ensures.few);
      steps = omega (arith, ok.same.steps, ok.count, count, i.steps);
    }

pub returns : goal.returns
returns g c =
    let fn = c.args.work.now in
    let l = c.steps in
    let i = l.invariant in
    let gone = i.following.gone in
    let first = tree_at fn.pool.trees (Some c.args.game.root) in
    let trees = fn.pool.trees in
    let all = ap (trees_of trees) (sym (take_all l.step-index c.args.script.now (omega (arith, c.steps-test.false)))) in
    walk_ends fn l.work first (trees_of trees (take l.step-index c.args.script.now)) l.sequence gone _ i.following.puts c.walk_to_end.result (trees_of trees c.args.script.now) all c.walk_to_end.ensures
