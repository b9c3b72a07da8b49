use Rattle.std.proofs.Common.{◌≡◌}
use Rattle.cv_kernel.specs.Sequences.{game_in}
use Rattle.cv_follow.specs.Courses.{PutsCourse}
use Rattle.cv_follow.specs.Searches.{IsSearching}
use Rattle.cv_follow.proofs.searching.try_all.Given as goal

abbrev pub invariant-tries : goal.invariant-tries
invariant-tries g l = record {
  searching : IsSearching l.fn.work l.work (game_in l.fn.work.pool.trees l.fn.sequence) l.made l.moves l.sequence (PutsCourse (g.K.Sink.taken l.fn.sink) (g.K.Sink.taken l.sink) (g.K.Sink.faults l.fn.sink) (g.K.Sink.faults l.sink) l.fn.work (game_in l.fn.work.pool.trees l.fn.sequence) l.fn.stream l.stream);
  steps : l.sequence.steps ≡ l.stream.steps;
}
