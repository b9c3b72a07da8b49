use Rattle.std.proofs.Common.{◌≡◌, ◌+◌, ◌-◌, ◌*◌, drop}
use Rattle.cv_parse_tables.specs.Table.{rows_of}
use Rattle.cv_print_tables.specs.Layout.{layout, one_of, row_layout}
use Rattle.cv_print_tables.specs.Prints.{belongs}
use Rattle.cv_print_tables.proofs.belonging.+belonging.Given as goal

abbrev pub invariant-pieces_belong-pieces : goal.invariant-pieces_belong-pieces
invariant-pieces_belong-pieces l = belongs (row_layout (layout (rows_of l.rows) l.bound) l.pieces) l.head ≡ belongs (row_layout (layout (rows_of l.rows) l.bound) (drop l.piece-index l.pieces)) l.head

abbrev pub invariant-any_belongs-rows : goal.invariant-any_belongs-rows
invariant-any_belongs-rows l = belongs (one_of (layout (rows_of l.rows) l.bound) l.first l.count) l.head ≡ belongs (one_of (layout (rows_of l.rows) l.bound) l.row (l.end - l.row)) l.head

abbrev pub decreases-row_belongs : goal.decreases-row_belongs
decreases-row_belongs l = 4 * l.bound

abbrev pub decreases-any_belongs : goal.decreases-any_belongs
decreases-any_belongs l = 4 * l.bound + 1

abbrev pub decreases-piece_belongs : goal.decreases-piece_belongs
decreases-piece_belongs l = 4 * l.bound + 2

abbrev pub decreases-pieces_belong : goal.decreases-pieces_belong
decreases-pieces_belong l = 4 * l.bound + 3
