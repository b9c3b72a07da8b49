use Rattle.std.proofs.Common.{◌≡◌, ◌+◌, ◌≤◌, drop}
use Rattle.cv_library.specs.Heads.{head_at, head_from}
use Rattle.cv_library.proofs.HeadWalk.{least}
use Rattle.cv_library.proofs.heads.head_end.Given as goal

abbrev pub invariant-loop-k : goal.invariant-loop-k
invariant-loop-k l = record { read : head_from l.awaited l.k (drop l.k l.tokens) ≡ head_at l.tokens l.fn.word; far : l.fn.word + least l.awaited ≤ l.k }
