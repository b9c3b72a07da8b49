use Rattle.std.proofs.Common.{◌≡◌, ◌≤◌, ◌+◌, ◌*◌, ◌^◌, take}
use Rattle.cv_lex.specs.Lexis.{value_of}
use Rattle.cv_inline_draws.proofs.names.ends.value_of.Given as goal

abbrev pub invariant-loop-digit : goal.invariant-loop-digit
invariant-loop-digit l = record {
  value : l.value ≡ value_of (take l.digit-index l.digits);
  small : l.value + 23 ≤ 23 * 10 ^ l.digit-index;
}
