use Rattle.std.proofs.Common.{◌≡◌, ◌≤◌, length}
use Rattle.cv_inline.specs.Draws.{end_number}
use Rattle.cv_inline_draws.proofs.names.Numbers.{behind}
use Rattle.cv_inline_draws.proofs.names.ends.end_number.Given as goal

abbrev pub invariant-digits : goal.invariant-digits
invariant-digits l = record {
  within : l.start ≤ length l.text;
  left : behind l.text l.start ≡ end_number l.text;
}

abbrev pub decreases-digits : goal.decreases-digits
decreases-digits l = l.start
