use Rattle.std.proofs.Common.{ℕ}
use Rattle.std.specs.Prelude.{All}
use Rattle.cv_step_writer.specs.Derivations.{IsBelow}
use Rattle.cv_direct.proofs.proposing.lines.nodes_of.Given as goal

abbrev pub invariant-loop-t : goal.invariant-loop-t
invariant-loop-t l = (n : ℕ) → All (IsBelow n) l.nodes → All (IsBelow n) l.list.items
