use Rattle.std.proofs.Common.{◌≡◌, ap, ◌∙◌, arith}
use Rattle.cv_parse_tables.specs.Table.{rows_of}
use Rattle.cv_print_tables.specs.Layout.{layout, row_layout}
use Rattle.cv_print_tables.specs.Prints.{takes}
use Rattle.cv_print_tables.proofs.Rows.{row_takes, takes_end}
use Rattle.cv_print_tables.proofs.belonging.taken.Goals as goal

pub returns : goal.returns
returns c =
    let row = layout (rows_of c.args.rows.now) c.args.row in
    let e = takes_end row c.pieces_of-pieces.result.now c.pieces.piece-index c.pieces-test.false in
    let h = c.pieces.invariant.taken in
    let i : c.pieces.count ≡ takes (row_layout row c.pieces_of-pieces.result.now) = omega (arith, e, h) in
    row_takes (rows_of c.args.rows.now) c.args.bound c.args.row c.pieces.count c.if-row-bound.false (i ∙ ap (λ ps. takes (row_layout row ps)) c.pieces_of-pieces.ensures)
