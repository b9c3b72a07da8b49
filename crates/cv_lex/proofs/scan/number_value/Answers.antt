use Rattle.std.proofs.Common.{◌+◌, arith}
use Rattle.cv_lex.proofs.Values.{value_of_more, value_of_take_le}
use Rattle.cv_lex.proofs.scan.number_value.Goals as goal

-- the digits so far are too large already, so all of them are
pub returns-in_err-checked_mul : goal.returns-in_err-checked_mul
returns-in_err-checked_mul c =
    rw c.from_residual.ensures
    (λ h.
    let more = value_of_more c.args.digits.now c.loop-digit.digit-index (omega arith) in
    let all = value_of_take_le c.args.digits.now (c.loop-digit.digit-index + 1) in
    c.in_err-checked_mul.ensures (omega arith))

pub returns-in_err-value : goal.returns-in_err-value
returns-in_err-value c =
    rw c.from_residual-in_err-value.ensures
    (λ h.
    let more = value_of_more c.args.digits.now c.loop-digit.digit-index (omega arith) in
    let all = value_of_take_le c.args.digits.now (c.loop-digit.digit-index + 1) in
    let product = c.in_ok-checked_mul.ensures in
    c.in_err-value.ensures (omega arith))
