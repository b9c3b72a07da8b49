use Rattle.std.proofs.Common.{subst, sym, Some}
use Rattle.std.specs.Prelude.{OnErr, OnOk}
use Rattle.cv_report.specs.Streams.{PutsLeg}
use Rattle.cv_syntax.specs.PoolTrees.{tree_at}
use Rattle.cv_follow.specs.Courses.{IsLegOf, PutsSome}
use Rattle.cv_follow.specs.Searches.{CutsBehind, PutsBehind}
use Rattle.cv_follow.proofs.Behind.{may_behind, on_err_each, on_ok_each}
use Rattle.cv_follow.proofs.searching.go_on_behind.Goals as goal

pub returns-in-Accepted-clause-puts : goal.returns-in-Accepted-clause-puts
returns-in-Accepted-clause-puts g c =
    let w = c.args.work.now in
    let q = c.args.sequence.now in
    let n = c.go_on.new in
    subst (λ x. OnOk c.go_on.result (PutsBehind x w q (g.K.Sink.taken c.args.sink.now) (g.K.Sink.taken n.sink) (g.K.Sink.faults c.args.sink.now) (g.K.Sink.faults n.sink) c.args.stream.now n.stream)) (sym c.in-Accepted.is)
    (on_ok_each (IsLegOf w.names w.pool.trees q (tree_at w.pool.trees (Some c.in-Accepted.step.0)))
    (λ e. PutsLeg (g.K.Sink.taken c.args.sink.now) (g.K.Sink.taken n.sink) (g.K.Sink.faults c.args.sink.now) (g.K.Sink.faults n.sink) e c.args.stream.now n.stream) c.go_on.result c.go_on.ensures.puts)

pub returns-in-Accepted-clause-cut : goal.returns-in-Accepted-clause-cut
returns-in-Accepted-clause-cut g c =
    let w = c.args.work.now in
    let q = c.args.sequence.now in
    let n = c.go_on.new in
    subst (λ x. OnErr c.go_on.result (CutsBehind x w q (g.K.Sink.taken c.args.sink.now) (g.K.Sink.taken n.sink) (g.K.Sink.faults c.args.sink.now) (g.K.Sink.faults n.sink) c.args.stream.now n.stream)) (sym c.in-Accepted.is)
    (on_err_each (IsLegOf w.names w.pool.trees q (tree_at w.pool.trees (Some c.in-Accepted.step.0)))
    (λ e. PutsSome (g.K.Sink.taken c.args.sink.now) (g.K.Sink.taken n.sink) (g.K.Sink.faults c.args.sink.now) (g.K.Sink.faults n.sink) e c.args.stream.now n.stream) c.go_on.result c.go_on.ensures.cut)

pub returns-in-Accepted-clause-again : goal.returns-in-Accepted-clause-again
returns-in-Accepted-clause-again g c =
    may_behind c.args.mark.0 c.args.work.now c.go_on.new.work c.args.sequence.now c.go_on.new.sequence c.go_on.result c.requires.may c.requires.mark c.requires.declared c.go_on.ensures.stays c.go_on.ensures.stands c.go_on.ensures.decls (c.go_on.ensures.empty c.requires.may.empty)
