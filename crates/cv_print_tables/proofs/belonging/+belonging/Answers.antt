use Rattle.std.proofs.Common.{sym, ◌∙◌, ◌+◌}
use Rattle.cv_parse_tables.specs.Table.{rows_of}
use Rattle.cv_print_tables.specs.Layout.{layout}
use Rattle.cv_print_tables.proofs.Rows.{belongs_skip, text_skip}
use Rattle.cv_print_tables.proofs.belonging.+belonging.Goals as goal

pub any_belongs-rows-preserved : goal.any_belongs-rows-preserved
any_belongs-rows-preserved t c = c.rows.invariant ∙ belongs_skip (layout (rows_of c.args.rows.now) c.args.bound) c.rows.row (c.args.first + c.args.count) c.args.head c.rows-test.true (sym c.if-row_belongs.ensures)

pub pieces_belong-pieces-preserved : goal.pieces_belong-pieces-preserved
pieces_belong-pieces-preserved t c =
    let row = layout (rows_of c.args.rows.now) c.args.bound in
    c.pieces.invariant ∙ text_skip row c.args.pieces.now c.pieces.piece-index _ c.args.head c.pieces-test.true (sym (c.if-not-is_text.ensures row))
