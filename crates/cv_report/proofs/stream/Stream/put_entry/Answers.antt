use Rattle.std.proofs.Common.{ap, subst, ◌+◌, ◌∙◌}
use Rattle.cv_report.specs.Lines.{leg_text}
use Rattle.cv_report.specs.Streams.{IsPut}
use Rattle.cv_report.specs.Text.{leg_in}
use Rattle.cv_report.proofs.Streams.{left_is_put, leg_is_put}
use Rattle.cv_report.proofs.stream.Stream.put_entry.Goals as goal

pub returns-then-not-puts-clause-put : goal.returns-then-not-puts-clause-put
returns-then-not-puts-clause-put g c =
    λ shows l before old h.
    left_is_put c.args.self.now shows l (leg_in c.args.work.now c.args.entry.now) before (g.K.Sink.taken c.args.sink.now) old (g.K.Sink.faults c.args.sink.now) (c.puts.ensures.none c.if-not-puts.true) h

pub returns-clause-put : goal.returns-clause-put
returns-clause-put g c =
    let self = c.args.self.now in
    let leg = leg_in c.args.work.now c.args.entry.now in
    let middle = g.K.Sink.taken c.args.sink.now in
    let now = g.K.Sink.taken c.put_text-self.new.sink in
    let mid = g.K.Sink.faults c.args.sink.now in
    let new = g.K.Sink.faults c.put_text-self.new.sink in
    λ shows l before old h.
    leg_is_put self c.put_text-self.result shows l leg before middle now old mid new
    (c.puts.ensures.going c.if-not-puts.false) (c.puts.ensures.shows c.if-not-puts.false) c.put_text-self.ensures.tells
    (subst (IsPut c.put_text-self.result middle now mid new) (ap (λ k. leg_text c.deref.result.now (k + 1) self.game leg) c.from-number.ensures ∙ ap (λ o. leg_text o (self.steps + 1) self.game leg) c.deref.ensures.value) (c.put_text-self.ensures.put _ c.entry_text-text.ensures))
    h
