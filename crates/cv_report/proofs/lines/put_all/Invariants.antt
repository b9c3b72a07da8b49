use Rattle.std.proofs.Common.{◌-◌, ◌≤◌, length, take, IsSome}
use Rattle.cv_report.specs.Writing.{TakesAll}
use Rattle.cv_report.proofs.lines.put_all.Given as goal

abbrev pub invariant-pieces : goal.invariant-pieces
invariant-pieces g l = record {
  within : l.done ≤ length l.piece;
  tells : IsSome (g.K.Sink.taken l.sink) → IsSome (g.K.Sink.taken l.fn.sink);
  taken : TakesAll (g.K.Sink.taken l.fn.sink) (g.K.Sink.taken l.sink) (take l.done l.piece);
  later : g.K.Sink.faults l.fn.sink ≤ g.K.Sink.faults l.sink;
}

abbrev pub decreases-pieces : goal.decreases-pieces
decreases-pieces g l = length l.piece - l.done
