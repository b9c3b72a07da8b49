use Rattle.std.proofs.Common.{sym, ◌∙◌}
use Rattle.cv_lex.proofs.Pieces.{piece_symbol}
use Rattle.cv_lex.proofs.scan.piece_of.Goals as goal

pub returns-else-is_ascii_digit : goal.returns-else-is_ascii_digit
returns-else-is_ascii_digit c =
    c.symbol.ensures
    ∙ piece_symbol c.args.bytes.now _ c.byte_at.ensures (sym c.if-is_empty.ensures) (sym c.if-is_blank.ensures) (sym c.if-opens.ensures) (sym c.if-is_ascii_alphabetic.ensures.value) (sym c.if-is_ascii_digit.ensures.value)
