use Rattle.std.proofs.Common.{◌≡◌, ◌+◌, ◌≤◌, drop}
use Rattle.cv_parse_tables.specs.Table.{rows_of}
use Rattle.cv_print_tables.specs.Layout.{layout, row_layout}
use Rattle.cv_print_tables.specs.Prints.{takes}
use Rattle.cv_print_tables.proofs.belonging.taken.Given as goal

abbrev pub invariant-pieces : goal.invariant-pieces
invariant-pieces l = record {
  few : l.count ≤ l.piece-index;
  taken : l.count + takes (row_layout (layout (rows_of l.rows) l.row) (drop l.piece-index l.pieces)) ≡ takes (row_layout (layout (rows_of l.rows) l.row) l.pieces);
}
