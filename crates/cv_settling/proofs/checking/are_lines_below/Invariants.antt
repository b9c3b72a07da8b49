use Rattle.std.proofs.Common.{take}
use Rattle.cv_step_writer.specs.Derivations.{AreLinesBelow}
use Rattle.cv_settling.proofs.checking.are_lines_below.Given as goal

abbrev pub invariant-loop-line : goal.invariant-loop-line
invariant-loop-line l = AreLinesBelow l.count (take l.line-index l.lines)
