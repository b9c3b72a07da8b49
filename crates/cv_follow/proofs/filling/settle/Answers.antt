use Rattle.std.proofs.Common.{arith, refl, subst, sym, ◌∙◌}
use Rattle.cv_follow.specs.Courses.{PutsOn}
use Rattle.cv_follow.specs.Fillings.{SettlesAll}
use Rattle.cv_follow.proofs.Behind.{on_err_so}
use Rattle.cv_follow.proofs.Fillings.{settles_broken, settles_cut, settles_last, settles_more, settles_none}
use Rattle.cv_follow.proofs.filling.settle.Goals as goal

pub tries-init : goal.tries-init
tries-init g c = record {
  settled = settles_none c.args.mark.0 c.args.work.now c.args.sequence.now (g.K.Sink.taken c.args.sink.now) (g.K.Sink.faults c.args.sink.now) c.args.stream.now c.requires.may;
  again = c.requires.may;
  room = c.requires.few;
  long = c.requires.mark;
  decls = refl;
  steps = c.requires.steps;
}

pub returns-in_err-tried-clause-cut : goal.returns-in_err-tried-clause-cut
returns-in_err-tried-clause-cut g c =
    let fn = c.args.work.now in
    let l = c.tries in
    let mid = c.settle_once.new.work in
    let t = c.settle_once.new.sequence in
    on_err_so _ c.from_residual.result (settles_broken c.args.mark.0 fn l.work mid c.args.sequence.now l.sequence t (g.K.Sink.taken c.args.sink.now) (g.K.Sink.taken l.sink) (g.K.Sink.faults c.args.sink.now) (g.K.Sink.faults l.sink) c.args.stream.now l.stream l.invariant.settled c.settle_once.ensures.grown)

pub returns-then-not-goes_on-clause-settled : goal.returns-then-not-goes_on-clause-settled
returns-then-not-goes_on-clause-settled g c =
    let fn = c.args.work.now in
    let l = c.tries in
    let mid = c.settle_once.new.work in
    let t = c.settle_once.new.sequence in
    subst (SettlesAll c.args.mark.0 fn mid c.args.sequence.now t (λ a b. PutsOn (g.K.Sink.taken c.args.sink.now) (g.K.Sink.taken l.sink) (g.K.Sink.faults c.args.sink.now) (g.K.Sink.faults l.sink) a b c.args.stream.now l.stream)) (sym c.end_by.ensures)
    (settles_last c.args.mark.0 fn l.work mid c.args.sequence.now l.sequence t (g.K.Sink.taken c.args.sink.now) (g.K.Sink.taken l.sink) (g.K.Sink.faults c.args.sink.now) (g.K.Sink.faults l.sink) c.args.stream.now l.stream l.invariant.settled c.in_ok-tried.tried (sym c.goes_on.ensures ∙ c.if-not-goes_on.true) c.in_ok-tried.ensures.tried)

pub returns-in_err-go_on_behind-clause-cut : goal.returns-in_err-go_on_behind-clause-cut
returns-in_err-go_on_behind-clause-cut g c =
    let fn = c.args.work.now in
    let l = c.tries in
    let mid = c.settle_once.new.work in
    let t = c.settle_once.new.sequence in
    let n = c.go_on_behind.new in
    on_err_so _ c.from_residual-in_err-go_on_behind.result
    (settles_cut c.args.mark.0 fn l.work mid c.args.sequence.now l.sequence t (g.K.Sink.taken c.args.sink.now) (g.K.Sink.taken l.sink) (g.K.Sink.faults c.args.sink.now) (g.K.Sink.faults l.sink) c.args.stream.now l.stream l.invariant.settled
    n.work (g.K.Sink.taken n.sink) (g.K.Sink.faults n.sink) n.stream c.in_ok-tried.tried (sym c.goes_on.ensures ∙ c.if-not-goes_on.false) c.in_ok-tried.ensures.tried c.go_on_behind.ensures.stays c.go_on_behind.ensures.names c.go_on_behind.ensures.decls c.in_err-go_on_behind.ensures.cut)

pub tries-preserved : goal.tries-preserved
tries-preserved g c =
    let fn = c.args.work.now in
    let l = c.tries in
    let mid = c.settle_once.new.work in
    let t = c.settle_once.new.sequence in
    let n = c.go_on_behind.new in
    let ok = c.in_ok-go_on_behind.ensures in
    let room = c.in_ok-tried.ensures.room in
    let few = ok.back.few in
    record {
      settled =
          settles_more c.args.mark.0 fn l.work mid c.args.sequence.now l.sequence t (g.K.Sink.taken c.args.sink.now) (g.K.Sink.taken l.sink) (g.K.Sink.faults c.args.sink.now) (g.K.Sink.faults l.sink) c.args.stream.now l.stream l.invariant.settled
          n.work (g.K.Sink.taken n.sink) (g.K.Sink.faults n.sink) n.stream n.sequence c.in_ok-tried.tried (sym c.goes_on.ensures ∙ c.if-not-goes_on.false) c.in_ok-tried.ensures.tried ok.back ok.again ok.puts;
      again = ok.again;
      room = omega arith;
      long = c.go_on_behind.ensures.stays.long;
      decls = c.go_on_behind.ensures.decls ∙ (c.settle_once.ensures.grown.decls ∙ l.invariant.decls);
      steps = ok.count;
    }
