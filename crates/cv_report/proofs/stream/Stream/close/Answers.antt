use Rattle.std.proofs.Common.{arith, subst}
use Rattle.cv_report.specs.Streams.{IsPut}
use Rattle.cv_report.proofs.Streams.{closed_going, closed_stays}
use Rattle.cv_report.proofs.stream.Stream.close.Goals as goal

pub returns-in-Going-clause-put : goal.returns-in-Going-clause-put
returns-in-Going-clause-put g c =
    λ before old lines whole text later put.
    closed_going c.put_text-self.result before (g.K.Sink.taken c.args.sink.now) (g.K.Sink.taken c.put_text-self.new.sink) old (g.K.Sink.faults c.args.sink.now) (g.K.Sink.faults c.put_text-self.new.sink) lines whole
    c.put_text-self.ensures.tells c.put_text-self.ensures.spent later
    (subst (λ f. IsPut f before (g.K.Sink.taken c.args.sink.now) old (g.K.Sink.faults c.args.sink.now) lines) c.in-Going.is put)
    (c.put_text-self.ensures.put whole text)

pub returns-in_default : goal.returns-in_default
returns-in_default g c = record {
  later = omega arith;
  put = λ before old lines whole text later put. closed_stays c.args.self.now.flow before (g.K.Sink.taken c.args.sink.now) old (g.K.Sink.faults c.args.sink.now) lines whole c.in_default.not-Going put;
}
