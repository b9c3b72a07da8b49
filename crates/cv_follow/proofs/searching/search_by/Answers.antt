use Rattle.std.proofs.Common.{subst, Some}
use Rattle.cv_syntax.specs.declared.work.Game.{Game}
use Rattle.cv_syntax.specs.PoolTrees.{tree_at}
use Rattle.cv_follow.specs.Courses.{PutsCourse}
use Rattle.cv_follow.specs.Searches.{HasEnded}
use Rattle.cv_follow.proofs.Searches.{search_begins, searched}
use Rattle.cv_follow.proofs.Tries.{may_begin}
use Rattle.cv_follow.proofs.searching.search_by.Goals as goal

pub try_all-ended-requires-clause-begun : goal.try_all-ended-requires-clause-begun
try_all-ended-requires-clause-begun g c =
    let s = c.start-sequence in
    let b = c.requires.begin in
    search_begins c.args.work.now c.args.moves s.result (g.K.Sink.taken c.args.sink.now) (g.K.Sink.faults c.args.sink.now) c.args.stream.now s.ensures.steps s.ensures.sum s.ensures.closed
    (may_begin c.args.work.now c.args.game s.result s.ensures.game s.ensures.arrays s.ensures.steps s.ensures.sum b.live b.small b.formed b.below b.equivalences b.limit)

pub returns-in-Ok : goal.returns-in-Ok
returns-in-Ok g c =
    let work = c.args.work.now in
    let n = c.try_all-ended.new in
    let first = tree_at work.pool.trees (Some c.args.game.root) in
    let ended = subst (λ (q : Game). HasEnded work n.work (tree_at work.pool.trees (Some q.root)) c.args.moves n.sequence (PutsCourse (g.K.Sink.taken c.args.sink.now) (g.K.Sink.taken n.sink) (g.K.Sink.faults c.args.sink.now) (g.K.Sink.faults n.sink) work (tree_at work.pool.trees (Some q.root)) c.args.stream.now n.stream) c.in-Ok.ending) c.start-sequence.ensures.game c.in-Ok.ensures.ended in
    searched work n.work first c.args.moves n.sequence (PutsCourse (g.K.Sink.taken c.args.sink.now) (g.K.Sink.taken n.sink) (g.K.Sink.faults c.args.sink.now) (g.K.Sink.faults n.sink) work first c.args.stream.now n.stream) c.in-Ok.ending c.closed.result.now c.finish.result ended c.closed.ensures c.finish.ensures
