use Rattle.std.proofs.Common.{subst, sym, ◌∙◌, Some}
use Rattle.cv_syntax.specs.PoolTrees.{tree_at}
use Rattle.cv_follow.specs.Courses.{PutsOn}
use Rattle.cv_follow.specs.Fillings.{TakesOne}
use Rattle.cv_follow.proofs.Behind.{on_err_so}
use Rattle.cv_follow.proofs.Fillings.{advances_broken, advances_cut, advances_ends, advances_takes, advances_word}
use Rattle.cv_follow.proofs.filling.advance.Goals as goal

pub returns-then-is_word-clause-advanced : goal.returns-then-is_word-clause-advanced
returns-then-is_word-clause-advanced g c =
    let old = c.args.work.now in
    let s = c.args.sequence.now in
    let x = tree_at old.pool.trees (Some c.args.step.0) in
    let n = c.settle.new in
    advances_word c.args.mark.0 old n.work x s n.sequence (λ a b. PutsOn (g.K.Sink.taken c.args.sink.now) (g.K.Sink.taken n.sink) (g.K.Sink.faults c.args.sink.now) (g.K.Sink.faults n.sink) a b c.args.stream.now n.stream) c.settle.result (sym c.is_word.ensures ∙ c.if-is_word.true) c.settle.ensures.settled

pub returns-in_err-status-clause-cut : goal.returns-in_err-status-clause-cut
returns-in_err-status-clause-cut g c =
    let old = c.args.work.now in
    let s = c.args.sequence.now in
    let x = tree_at old.pool.trees (Some c.args.step.0) in
    on_err_so _ c.from_residual.result (advances_broken c.args.mark.0 old c.take_step.new.work s c.take_step.new.sequence x (sym c.is_word.ensures ∙ c.if-is_word.false) c.requires.may (g.K.Sink.taken c.args.sink.now) (g.K.Sink.faults c.args.sink.now) c.args.stream.now c.take_step.ensures.grown)

pub returns-in-Some-clause-advanced : goal.returns-in-Some-clause-advanced
returns-in-Some-clause-advanced g c =
    let old = c.args.work.now in
    let s = c.args.sequence.now in
    let x = tree_at old.pool.trees (Some c.args.step.0) in
    advances_ends c.args.mark.0 old c.take_step.new.work s c.take_step.new.sequence x (sym c.is_word.ensures ∙ c.if-is_word.false) c.requires.may (g.K.Sink.taken c.args.sink.now) (g.K.Sink.faults c.args.sink.now) c.args.stream.now c.args.step c.in-Some.status
    (subst (TakesOne old c.take_step.new.work c.args.step.0 x s c.take_step.new.sequence) c.in-Some.is c.in_ok-status.ensures.taken)

pub returns-in_err-go_on_behind-clause-cut : goal.returns-in_err-go_on_behind-clause-cut
returns-in_err-go_on_behind-clause-cut g c =
    let old = c.args.work.now in
    let s = c.args.sequence.now in
    let x = tree_at old.pool.trees (Some c.args.step.0) in
    let n = c.go_on_behind.new in
    on_err_so _ c.from_residual-in_err-go_on_behind.result
    (advances_cut c.args.mark.0 old c.take_step.new.work s c.take_step.new.sequence x (sym c.is_word.ensures ∙ c.if-is_word.false) c.requires.may (g.K.Sink.taken c.args.sink.now) (g.K.Sink.faults c.args.sink.now) c.args.stream.now
    n.work (g.K.Sink.taken n.sink) (g.K.Sink.faults n.sink) n.stream c.args.step (subst (TakesOne old c.take_step.new.work c.args.step.0 x s c.take_step.new.sequence) c.in_default.is c.in_ok-status.ensures.taken)
    c.go_on_behind.ensures.stays c.go_on_behind.ensures.names c.go_on_behind.ensures.decls c.in_err-go_on_behind.ensures.cut)

pub returns-clause-advanced : goal.returns-clause-advanced
returns-clause-advanced g c =
    let old = c.args.work.now in
    let s = c.args.sequence.now in
    let x = tree_at old.pool.trees (Some c.args.step.0) in
    let n = c.go_on_behind.new in
    let ok = c.in_ok-go_on_behind.ensures in
    advances_takes c.args.mark.0 old c.take_step.new.work s c.take_step.new.sequence x (sym c.is_word.ensures ∙ c.if-is_word.false) c.requires.may (g.K.Sink.taken c.args.sink.now) (g.K.Sink.faults c.args.sink.now) c.args.stream.now
    n.work (g.K.Sink.taken n.sink) (g.K.Sink.faults n.sink) n.stream c.args.step (subst (TakesOne old c.take_step.new.work c.args.step.0 x s c.take_step.new.sequence) c.in_default.is c.in_ok-status.ensures.taken) n.sequence ok.back ok.again ok.puts
