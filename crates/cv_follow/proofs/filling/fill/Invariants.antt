use Rattle.std.proofs.Common.{◌≡◌, ◌≤◌, Some, length, take}
use Rattle.cv_syntax.specs.PoolTrees.{tree_at}
use Rattle.cv_script.specs.reader.Scripts.{trees_of}
use Rattle.cv_accept.specs.Accepted.{most_pool}
use Rattle.cv_follow.specs.Courses.{PutsCourse}
use Rattle.cv_follow.specs.Fillings.{IsFilling}
use Rattle.cv_follow.specs.Searches.{MayTry}
use Rattle.cv_follow.proofs.filling.fill.Given as goal

abbrev pub invariant-steps : goal.invariant-steps
invariant-steps g l = record {
  filling : IsFilling l.fn.work l.work (tree_at l.fn.work.pool.trees (Some l.fn.game.root)) (trees_of l.fn.work.pool.trees (take l.step-index l.script)) l.sequence (PutsCourse (g.K.Sink.taken l.fn.sink) (g.K.Sink.taken l.sink) (g.K.Sink.faults l.fn.sink) (g.K.Sink.faults l.sink) l.fn.work (tree_at l.fn.work.pool.trees (Some l.fn.game.root)) l.fn.stream l.stream);
  again : MayTry l.work l.sequence;
  room : length l.work.pool.trees ≤ most_pool;
  steps : l.sequence.steps ≡ l.stream.steps;
}
