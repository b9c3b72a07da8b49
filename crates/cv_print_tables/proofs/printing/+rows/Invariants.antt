use Rattle.std.proofs.Common.{◌≡◌, ◌++◌, ◌+◌, ◌*◌, drop, length}
use Rattle.cv_pool.specs.Nodes.{ChildBelow}
use Rattle.cv_parse_tables.specs.Table.{rows_of}
use Rattle.cv_print_tables.specs.Items.{listed, items_at}
use Rattle.cv_print_tables.specs.Layout.{layout, row_layout, many}
use Rattle.cv_print_tables.specs.Prints.{prints_in}
use Rattle.cv_print_tables.proofs.Rows.{turns}
use Rattle.cv_print_tables.proofs.printing.+rows.Given as goal

abbrev pub invariant-push_repeated-turns : goal.invariant-push_repeated-turns
invariant-push_repeated-turns l = record {
  live : ChildBelow (length l.pool.trees) (items_at l.rest);
  text : l.out.items ++ (turns (rows_of l.rows) l.names l.depth (layout (rows_of l.rows) l.bound l.row) l.turns (listed l.pool.trees l.rest)).text ≡ l.fn.out.items ++ (prints_in (rows_of l.rows) l.names l.depth (many (layout (rows_of l.rows) l.bound l.row)) (listed l.pool.trees l.fn.items)).text;
  rest : (turns (rows_of l.rows) l.names l.depth (layout (rows_of l.rows) l.bound l.row) l.turns (listed l.pool.trees l.rest)).rest ≡ (prints_in (rows_of l.rows) l.names l.depth (many (layout (rows_of l.rows) l.bound l.row)) (listed l.pool.trees l.fn.items)).rest;
}

abbrev pub decreases-push_repeated-turns : goal.decreases-push_repeated-turns
decreases-push_repeated-turns l = l.turns

abbrev pub invariant-push_pieces-pieces : goal.invariant-push_pieces-pieces
invariant-push_pieces-pieces l = record {
  live : ChildBelow (length l.pool.trees) (items_at l.rest);
  text : l.out.items ++ (prints_in (rows_of l.rows) l.names l.depth (row_layout (layout (rows_of l.rows) l.bound) (drop l.piece-index l.pieces)) (listed l.pool.trees l.rest)).text ≡ l.fn.out.items ++ (prints_in (rows_of l.rows) l.names l.depth (row_layout (layout (rows_of l.rows) l.bound) l.pieces) (listed l.pool.trees l.fn.items)).text;
  rest : (prints_in (rows_of l.rows) l.names l.depth (row_layout (layout (rows_of l.rows) l.bound) (drop l.piece-index l.pieces)) (listed l.pool.trees l.rest)).rest ≡ (prints_in (rows_of l.rows) l.names l.depth (row_layout (layout (rows_of l.rows) l.bound) l.pieces) (listed l.pool.trees l.fn.items)).rest;
}

abbrev pub decreases-push_row : goal.decreases-push_row
decreases-push_row l = 8 * (65537 * l.depth + l.bound)

abbrev pub decreases-push_repeated : goal.decreases-push_repeated
decreases-push_repeated l = 8 * (65537 * l.depth + l.bound) + 1

abbrev pub decreases-push_phrase : goal.decreases-push_phrase
decreases-push_phrase l = 8 * (65537 * l.depth) + 1

abbrev pub decreases-push_tree : goal.decreases-push_tree
decreases-push_tree l = 8 * (65537 * l.depth + l.bound) + 2

abbrev pub decreases-push_next : goal.decreases-push_next
decreases-push_next l = 8 * (65537 * l.depth + l.bound) + 3

abbrev pub decreases-push_piece : goal.decreases-push_piece
decreases-push_piece l = 8 * (65537 * l.depth + l.bound) + 4

abbrev pub decreases-push_pieces : goal.decreases-push_pieces
decreases-push_pieces l = 8 * (65537 * l.depth + l.bound) + 5
