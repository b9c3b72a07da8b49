use Rattle.std.proofs.Common.{ℕ}
use Rattle.std.specs.Prelude.{All}
use Rattle.cv_step_writer.specs.Derivations.{AreLinesBelow, IsBelow}
use Rattle.cv_direct.proofs.proposing.lines.lines_of.Given as goal

abbrev pub invariant-loop-line : goal.invariant-loop-line
invariant-loop-line l = (n : ℕ) → All (IsBelow n) l.nodes → AreLinesBelow n l.list.items
