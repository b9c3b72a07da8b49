use Rattle.std.proofs.Common.{refl, sym, ◌∙◌}
use Rattle.cv_report.proofs.Streams.{begins, begins_silent, begins_spent}
use Rattle.cv_report.proofs.stream.Stream.begin.Goals as goal

pub returns-then-not-is_streamed : goal.returns-then-not-is_streamed
returns-then-not-is_streamed g c =
    let start = c.silent-stream.ensures in
    begins_silent c.silent-stream.result _ c.args.work.now c.args.game.root (g.K.Sink.taken c.args.sink.now) (g.K.Sink.faults c.args.sink.now) (sym c.is_streamed.ensures ∙ c.if-not-is_streamed.true) start.shows start.flow start.steps start.game

pub returns-in_default : goal.returns-in_default
returns-in_default g c =
    let start = c.silent-stream.ensures in
    begins_spent _ _ c.args.work.now c.args.game.root (g.K.Sink.taken c.args.sink.now) (g.K.Sink.faults c.args.sink.now) (sym c.is_streamed.ensures ∙ c.if-not-is_streamed.false) refl start.steps start.game

pub returns : goal.returns
returns g c =
    let start = c.silent-stream.ensures in
    begins _ _ c.args.work.now c.args.game.root (g.K.Sink.taken c.args.sink.now) (g.K.Sink.taken c.put_text-stream.new.sink) (g.K.Sink.faults c.args.sink.now) (g.K.Sink.faults c.put_text-stream.new.sink) (sym c.is_streamed.ensures ∙ c.if-not-is_streamed.false)
    c.in-Ok.ensures start.steps start.game c.put_text-stream.ensures.later (c.put_text-stream.ensures.put _ c.first_text-text.ensures) refl
