use Rattle.std.proofs.Common.{ap, ◌∙◌, ◌+◌}
use Rattle.cv_report.specs.Lines.{game_after}
use Rattle.cv_report.specs.Text.{leg_in}
use Rattle.cv_report.proofs.Streams.{few_games, streams_more}
use Rattle.cv_report.proofs.stream.Stream.put_step.Goals as goal

pub invariant_of-self : goal.invariant_of-self
invariant_of-self g c = record {
  few = few_games c.put_entry.new.self.game c.put_entry.new.self.steps c.game_behind-self.result (leg_in c.args.work.now c.args.entry) (c.game_behind-self.ensures c.args.work.now) c.put_entry.new.self.few;
}

pub returns-clause-puts : goal.returns-clause-puts
returns-clause-puts g c =
    let leg = leg_in c.args.work.now c.args.entry in
    let put = c.put_entry.ensures in
    λ shows l before old h.
    streams_more c.args.self.now c.keep.new.self c.put_entry.new.self.flow shows l leg before (g.K.Sink.taken c.args.sink.now) (g.K.Sink.taken c.put_entry.new.sink) old (g.K.Sink.faults c.args.sink.now) (g.K.Sink.faults c.put_entry.new.sink)
    put.later put.going c.keep.ensures.flow (c.keep.ensures.shows ∙ put.shows) (c.keep.ensures.order ∙ put.order) (c.keep.ensures.steps ∙ ap (λ k. k + 1) put.steps)
    (c.keep.ensures.game ∙ (c.game_behind-self.ensures c.args.work.now ∙ ap (λ k. game_after k leg) put.game))
    (put.put shows l before old h) h
