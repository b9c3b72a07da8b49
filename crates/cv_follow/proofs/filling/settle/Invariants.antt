use Rattle.std.proofs.Common.{◌≡◌, ◌≤◌, None, length}
use Rattle.cv_accept.specs.Accepted.{most_pool}
use Rattle.cv_follow.specs.Courses.{PutsOn}
use Rattle.cv_follow.specs.Fillings.{SettlesAll}
use Rattle.cv_follow.specs.Searches.{MayTry}
use Rattle.cv_follow.proofs.filling.settle.Given as goal

abbrev pub invariant-tries : goal.invariant-tries
invariant-tries g l = record {
  settled : SettlesAll l.mark.0 l.fn.work l.work l.fn.sequence l.sequence (λ a b. PutsOn (g.K.Sink.taken l.fn.sink) (g.K.Sink.taken l.sink) (g.K.Sink.faults l.fn.sink) (g.K.Sink.faults l.sink) a b l.fn.stream l.stream) None;
  again : MayTry l.work l.sequence;
  room : length l.work.pool.trees ≤ most_pool;
  long : l.mark.0 ≤ length l.work.pool.trees;
  decls : l.work.decls ≡ l.fn.work.decls;
  steps : l.sequence.steps ≡ l.stream.steps;
}
