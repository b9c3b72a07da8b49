use Rattle.cv_rehearsals.proofs.Works.{may_begin_again}
use Rattle.cv_follow.proofs.Rehearsed.{rehearsed_alone, searched_before}
use Rattle.cv_follow.proofs.rehearsing.search.Goals as goal

pub search_by-requires-clause-begin : goal.search_by-requires-clause-begin
search_by-requires-clause-begin g c =
    let r = c.requires in
    may_begin_again c.args.work.now c.strategy_for.new.work c.args.game
    (record { live = r.game; small = r.small; formed = r.formed; below = r.below; equivalences = r.equivalences; limit = r.limit }) c.strategy_for.ensures

pub returns-in-Ok : goal.returns-in-Ok
returns-in-Ok g c =
    searched_before c.args.work.now c.strategy_for.new.work c.strategy_for.ensures c.args.game.root c.args.moves c.search_by.new.work
    (g.K.Sink.taken c.args.sink.now) (g.K.Sink.taken c.search_by.new.sink) (g.K.Sink.faults c.args.sink.now) (g.K.Sink.faults c.search_by.new.sink) c.args.stream.now c.search_by.new.stream
    c.search_by.result c.search_by.ensures

pub returns-in-Err : goal.returns-in-Err
returns-in-Err g c =
    rehearsed_alone c.args.work.now c.strategy_for.new.work c.strategy_for.ensures c.args.game.root c.args.moves
    (g.K.Sink.taken c.args.sink.now) (g.K.Sink.faults c.args.sink.now) c.args.stream.now c.out_of_memory.result c.out_of_memory.ensures.status c.out_of_memory.ensures.verdicts
