use Rattle.std.proofs.Common.{◌≤◌, arith, length, subst, sym}
use Rattle.cv_kernel.specs.Sequences.{game_in}
use Rattle.cv_follow.specs.Courses.{PutsCourse}
use Rattle.cv_follow.specs.Searches.{IsSearching}
use Rattle.cv_follow.proofs.Behind.{on_err_so}
use Rattle.cv_follow.proofs.Searches.{moves_fit, search_behind, search_broken, search_cut, search_ends, search_may, search_more}
use Rattle.cv_follow.proofs.searching.try_all.Goals as goal

pub returns-in_err-tried-clause-cut : goal.returns-in_err-tried-clause-cut
returns-in_err-tried-clause-cut g c =
    let fn = c.args.work.now in
    let l = c.tries in
    on_err_so _ c.from_residual.result (search_broken fn l.work c.attempt.new.work (game_in fn.pool.trees c.args.sequence.now) c.requires.below l.made c.args.moves l.sequence c.attempt.new.sequence (g.K.Sink.taken c.args.sink.now) (g.K.Sink.taken l.sink) (g.K.Sink.faults c.args.sink.now) (g.K.Sink.faults l.sink) c.args.stream.now l.stream l.invariant.searching c.attempt.ensures.grown)

pub returns-in-Some-clause-ended : goal.returns-in-Some-clause-ended
returns-in-Some-clause-ended g c =
    let fn = c.args.work.now in
    let l = c.tries in
    search_ends fn l.work c.attempt.new.work (game_in fn.pool.trees c.args.sequence.now) c.requires.below l.made c.args.moves l.sequence c.attempt.new.sequence (g.K.Sink.taken c.args.sink.now) (g.K.Sink.taken l.sink) (g.K.Sink.faults c.args.sink.now) (g.K.Sink.faults l.sink) c.args.stream.now l.stream l.invariant.searching c.in_ok-tried.tried c.in-Some.ending c.in_ok-tried.ensures.tried c.in-Some.ensures

pub moves_behind-made-requires : goal.moves_behind-made-requires
moves_behind-made-requires g c = λ step e.
    let fn = c.args.work.now in
    let l = c.tries in
    let less = moves_fit fn l.work c.attempt.new.work (game_in fn.pool.trees c.args.sequence.now) c.requires.below l.made c.args.moves l.sequence c.attempt.new.sequence (g.K.Sink.taken c.args.sink.now) (g.K.Sink.taken l.sink) (g.K.Sink.faults c.args.sink.now) (g.K.Sink.faults l.sink) c.args.stream.now l.stream l.invariant.searching c.in_ok-tried.tried c.in_ok-tried.ensures.tried step e in
    omega arith

pub go_on_behind-requires-clause-may : goal.go_on_behind-requires-clause-may
go_on_behind-requires-clause-may g c =
    let fn = c.args.work.now in
    let l = c.tries in
    search_may fn l.work c.attempt.new.work (game_in fn.pool.trees c.args.sequence.now) c.requires.below l.made c.args.moves l.sequence c.attempt.new.sequence (g.K.Sink.taken c.args.sink.now) (g.K.Sink.taken l.sink) (g.K.Sink.faults c.args.sink.now) (g.K.Sink.faults l.sink) c.args.stream.now l.stream l.invariant.searching c.in_ok-tried.tried c.in_ok-tried.ensures.tried (sym c.in-None.ensures)

pub go_on_behind-requires-clause-behind : goal.go_on_behind-requires-clause-behind
go_on_behind-requires-clause-behind g c =
    let fn = c.args.work.now in
    let l = c.tries in
    search_behind fn l.work c.attempt.new.work (game_in fn.pool.trees c.args.sequence.now) c.requires.below l.made c.args.moves l.sequence c.attempt.new.sequence (g.K.Sink.taken c.args.sink.now) (g.K.Sink.taken l.sink) (g.K.Sink.faults c.args.sink.now) (g.K.Sink.faults l.sink) c.args.stream.now l.stream l.invariant.searching c.in_ok-tried.tried c.in_ok-tried.ensures.tried (sym c.in-None.ensures) l.invariant.steps

pub returns-in_err-go_on_behind-clause-cut : goal.returns-in_err-go_on_behind-clause-cut
returns-in_err-go_on_behind-clause-cut g c =
    let fn = c.args.work.now in
    let l = c.tries in
    let n = c.go_on_behind.new in
    let at : length fn.pool.trees ≤ c.mark-mark.result.0 = omega (arith, c.mark-mark.ensures) in
    on_err_so _ c.from_residual-in_err-go_on_behind.result (search_cut fn l.work c.attempt.new.work (game_in fn.pool.trees c.args.sequence.now) c.requires.below l.made c.args.moves l.sequence c.attempt.new.sequence (g.K.Sink.taken c.args.sink.now) (g.K.Sink.taken l.sink) (g.K.Sink.faults c.args.sink.now) (g.K.Sink.faults l.sink) c.args.stream.now l.stream l.invariant.searching
    c.mark-mark.result.0 at n.work (g.K.Sink.taken n.sink) (g.K.Sink.faults n.sink) n.stream c.in_ok-tried.tried c.in_ok-tried.ensures.tried (sym c.in-None.ensures) c.go_on_behind.ensures.stays c.go_on_behind.ensures.names c.go_on_behind.ensures.decls c.in_err-go_on_behind.ensures.cut)

pub tries-preserved : goal.tries-preserved
tries-preserved g c =
    let fn = c.args.work.now in
    let l = c.tries in
    let n = c.go_on_behind.new in
    let at : length fn.pool.trees ≤ c.mark-mark.result.0 = omega (arith, c.mark-mark.ensures) in
    let ok = c.in_ok-go_on_behind.ensures in
    let first = game_in fn.pool.trees c.args.sequence.now in
    record {
      searching =
          subst (λ k. IsSearching fn n.work first k c.args.moves n.sequence (PutsCourse (g.K.Sink.taken c.args.sink.now) (g.K.Sink.taken n.sink) (g.K.Sink.faults c.args.sink.now) (g.K.Sink.faults n.sink) fn first c.args.stream.now n.stream)) (sym c.moves_behind-made.ensures)
          (search_more fn l.work c.attempt.new.work first c.requires.below l.made c.args.moves l.sequence c.attempt.new.sequence (g.K.Sink.taken c.args.sink.now) (g.K.Sink.taken l.sink) (g.K.Sink.faults c.args.sink.now) (g.K.Sink.faults l.sink) c.args.stream.now l.stream l.invariant.searching
          c.mark-mark.result.0 at n.work (g.K.Sink.taken n.sink) (g.K.Sink.faults n.sink) n.stream n.sequence c.in_ok-tried.tried c.in_ok-tried.ensures.tried (sym c.in-None.ensures) ok.back ok.again ok.puts);
      steps = ok.count;
    }
