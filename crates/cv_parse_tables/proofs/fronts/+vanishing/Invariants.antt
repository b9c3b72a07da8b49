use Rattle.std.proofs.Common.{◌≡◌, ◌+◌, ◌-◌, ◌*◌, drop}
use Rattle.cv_parse_notation.specs.Spells.{may_vanish}
use Rattle.cv_parse_tables.specs.Table.{rows_of, form, row_form, one_of}
use Rattle.cv_parse_tables.proofs.fronts.+vanishing.Given as goal

abbrev pub invariant-pieces_vanish-pieces : goal.invariant-pieces_vanish-pieces
invariant-pieces_vanish-pieces l = may_vanish (row_form (form (rows_of l.rows) l.bound) l.pieces) ≡ may_vanish (row_form (form (rows_of l.rows) l.bound) (drop l.piece-index l.pieces))

abbrev pub decreases-may_vanish : goal.decreases-may_vanish
decreases-may_vanish l = 4 * l.bound

abbrev pub decreases-piece_vanishes : goal.decreases-piece_vanishes
decreases-piece_vanishes l = 4 * l.bound + 2

abbrev pub decreases-pieces_vanish : goal.decreases-pieces_vanish
decreases-pieces_vanish l = 4 * l.bound + 3

abbrev pub invariant-any_vanishes-rows : goal.invariant-any_vanishes-rows
invariant-any_vanishes-rows l = may_vanish (one_of (form (rows_of l.rows) l.bound) l.first l.count) ≡ may_vanish (one_of (form (rows_of l.rows) l.bound) l.row (l.end - l.row))

abbrev pub decreases-any_vanishes : goal.decreases-any_vanishes
decreases-any_vanishes l = 4 * l.bound + 1
