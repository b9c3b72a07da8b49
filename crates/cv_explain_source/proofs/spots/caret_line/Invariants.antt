use Rattle.std.proofs.Common.{◌≡◌}
use Rattle.std.specs.Prelude.{replicate}
use Rattle.cv_explain_source.proofs.spots.caret_line.Given as goal

abbrev pub invariant-blanks : goal.invariant-blanks
invariant-blanks l = l.line.items ≡ replicate l.counter 32
