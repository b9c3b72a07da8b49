use Rattle.std.proofs.Common.{◌≡◌, ◌≤◌, ◌+◌, ◌-◌, ◌*◌, length, drop}
use Rattle.cv_parse_terms.specs.Tables.{more, pieces_in, row_in, rows_of, work_of}
use Rattle.cv_parse_terms.proofs.interpreter.+walk.Given as goal

abbrev pub invariant-list-turns : goal.invariant-list-turns
invariant-list-turns l = record {
  within : l.place ≤ length l.signs;
  same : more l.closing l.mark (row_in (rows_of l.rows) l.depth l.bound l.row) l.turns l.count (work_of l.trail l.names.items (drop l.place l.signs)) ≡ more l.closing l.mark (row_in (rows_of l.rows) l.depth l.bound l.row) (length l.signs - l.fn.at) l.read (work_of l.fn.trail l.fn.names.items (drop l.fn.at l.signs));
  fits : l.count + l.turns ≡ (length l.signs - l.fn.at) + l.read;
}

abbrev pub decreases-list-turns : goal.decreases-list-turns
decreases-list-turns l = l.turns

abbrev pub invariant-read_pieces-pieces : goal.invariant-read_pieces-pieces
invariant-read_pieces-pieces l = record {
  within : l.place ≤ length l.signs;
  same : pieces_in (rows_of l.rows) l.depth l.bound (drop l.piece-index l.pieces) (work_of l.trail l.names.items (drop l.place l.signs)) ≡ pieces_in (rows_of l.rows) l.depth l.bound l.pieces (work_of l.fn.trail l.fn.names.items (drop l.fn.at l.signs));
}

abbrev pub decreases-read_row : goal.decreases-read_row
decreases-read_row l = 8 * (65537 * l.depth + l.bound)

abbrev pub decreases-list : goal.decreases-list
decreases-list l = 8 * (65537 * l.depth + l.bound) + 1

abbrev pub decreases-read_piece : goal.decreases-read_piece
decreases-read_piece l = 8 * (65537 * l.depth + l.bound) + 2

abbrev pub decreases-read_pieces : goal.decreases-read_pieces
decreases-read_pieces l = 8 * (65537 * l.depth + l.bound) + 3

abbrev pub decreases-read_table : goal.decreases-read_table
decreases-read_table l = 8 * (65537 * l.depth + 65536) + 1
