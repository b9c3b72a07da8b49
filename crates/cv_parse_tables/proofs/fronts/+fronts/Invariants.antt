use Rattle.std.proofs.Common.{◌≡◌, ◌+◌, ◌-◌, ◌*◌, drop}
use Rattle.cv_parse_notation.specs.Spells.{starts, kind_of}
use Rattle.cv_parse_tables.specs.Table.{rows_of, form, row_form, one_of, fronts}
use Rattle.cv_parse_tables.proofs.fronts.+fronts.Given as goal

abbrev pub invariant-pieces_begin-pieces : goal.invariant-pieces_begin-pieces
invariant-pieces_begin-pieces l = starts (fronts (rows_of l.rows) l.hops) (row_form (form (rows_of l.rows) l.bound) l.pieces) (kind_of l.sign) ≡ starts (fronts (rows_of l.rows) l.hops) (row_form (form (rows_of l.rows) l.bound) (drop l.piece-index l.pieces)) (kind_of l.sign)

abbrev pub decreases-begins : goal.decreases-begins
decreases-begins l = 4 * (l.hops * 65537 + l.bound)

abbrev pub decreases-piece_begins : goal.decreases-piece_begins
decreases-piece_begins l = 4 * (l.hops * 65537 + l.bound) + 2

abbrev pub decreases-pieces_begin : goal.decreases-pieces_begin
decreases-pieces_begin l = 4 * (l.hops * 65537 + l.bound) + 3

abbrev pub invariant-any_begins-rows : goal.invariant-any_begins-rows
invariant-any_begins-rows l = starts (fronts (rows_of l.rows) l.hops) (one_of (form (rows_of l.rows) l.bound) l.first l.count) (kind_of l.sign) ≡ starts (fronts (rows_of l.rows) l.hops) (one_of (form (rows_of l.rows) l.bound) l.row (l.end - l.row)) (kind_of l.sign)

abbrev pub decreases-any_begins : goal.decreases-any_begins
decreases-any_begins l = 4 * (l.hops * 65537 + l.bound) + 1
