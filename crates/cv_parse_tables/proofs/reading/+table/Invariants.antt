use Rattle.std.proofs.Common.{false, ◌+◌, ◌*◌, drop}
use Rattle.cv_parse_tables.specs.Table.{rows_of, form, row_form, many_form, table_reads}
use Rattle.cv_parse_tables.proofs.Readers.{SoFar, turns_read}
use Rattle.cv_parse_tables.proofs.reading.+table.Given as goal

abbrev pub invariant-repeated-turns : goal.invariant-repeated-turns
invariant-repeated-turns l = SoFar l.signs l.fn.trail l.trail (table_reads (rows_of l.rows) l.depth (many_form false (form (rows_of l.rows) l.bound l.row)) (drop l.fn.at l.signs)) (turns_read (rows_of l.rows) l.depth (form (rows_of l.rows) l.bound l.row) l.turns (drop l.place l.signs)) l.count l.place

abbrev pub decreases-repeated-turns : goal.decreases-repeated-turns
decreases-repeated-turns l = l.turns

abbrev pub invariant-read_pieces-pieces : goal.invariant-read_pieces-pieces
invariant-read_pieces-pieces l = SoFar l.signs l.fn.trail l.trail (table_reads (rows_of l.rows) l.depth (row_form (form (rows_of l.rows) l.bound) l.pieces) (drop l.fn.at l.signs)) (table_reads (rows_of l.rows) l.depth (row_form (form (rows_of l.rows) l.bound) (drop l.piece-index l.pieces)) (drop l.place l.signs)) l.count l.place

abbrev pub decreases-read_row : goal.decreases-read_row
decreases-read_row l = 8 * (65537 * l.depth + l.bound)

abbrev pub decreases-maybe : goal.decreases-maybe
decreases-maybe l = 8 * (65537 * l.depth + l.bound) + 1

abbrev pub decreases-repeated : goal.decreases-repeated
decreases-repeated l = 8 * (65537 * l.depth + l.bound) + 1

abbrev pub decreases-levelled : goal.decreases-levelled
decreases-levelled l = 8 * (65537 * l.depth + l.bound) + 1

abbrev pub decreases-deeper : goal.decreases-deeper
decreases-deeper l = 8 * (65537 * l.depth) + 1

abbrev pub decreases-read_piece : goal.decreases-read_piece
decreases-read_piece l = 8 * (65537 * l.depth + l.bound) + 2

abbrev pub decreases-read_pieces : goal.decreases-read_pieces
decreases-read_pieces l = 8 * (65537 * l.depth + l.bound) + 3

abbrev pub decreases-phrase : goal.decreases-phrase
decreases-phrase l = 8 * (65537 * l.depth + 65536) + 1
