use Rattle.std.proofs.Common.{◌-◌, ◌≤◌, length, take, IsSome}
use Rattle.cv_report.specs.Writing.{TakesAll}
use Rattle.cv_report.proofs.lines.put_each_line.Given as goal

abbrev pub invariant-lines : goal.invariant-lines
invariant-lines g l = record {
  within : l.done ≤ length l.text;
  tells : IsSome (g.K.Sink.taken l.sink) → IsSome (g.K.Sink.taken l.fn.sink);
  taken : TakesAll (g.K.Sink.taken l.fn.sink) (g.K.Sink.taken l.sink) (take l.done l.text);
  later : g.K.Sink.faults l.fn.sink ≤ g.K.Sink.faults l.sink;
}

abbrev pub decreases-lines : goal.decreases-lines
decreases-lines g l = length l.text - l.done
