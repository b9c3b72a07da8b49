use Rattle.std.proofs.Common.{◌≡◌, ◌<◌, ◌^◌, take}
use Rattle.cv_lex.specs.Lexis.{value_of}
use Rattle.cv_lex.proofs.scan.number_value.Given as goal

abbrev pub invariant-loop-digit : goal.invariant-loop-digit
invariant-loop-digit l = record { value_is : l.value ≡ value_of (take l.digit-index l.digits); fits : l.value < 2 ^ 64 }
