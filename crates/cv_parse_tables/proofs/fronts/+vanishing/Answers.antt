use Rattle.std.proofs.Common.{sym, ◌∙◌, ◌+◌}
use Rattle.cv_parse_tables.specs.Table.{rows_of, form}
use Rattle.cv_parse_tables.proofs.Rows.{vanish_skip, vanishes_row, vanishes_none}
use Rattle.cv_parse_tables.proofs.fronts.+vanishing.Goals as goal

pub may_vanish-returns-then-row-bound : goal.may_vanish-returns-then-row-bound
may_vanish-returns-then-row-bound t c = vanishes_row c.args.rows.now c.args.bound c.args.row _ _ c.if-row-bound.true c.requires c.pieces_vanish.ensures

pub may_vanish-returns : goal.may_vanish-returns
may_vanish-returns t c = sym (vanishes_none (rows_of c.args.rows.now) c.args.bound c.args.row c.if-row-bound.false)

pub any_vanishes-rows-preserved : goal.any_vanishes-rows-preserved
any_vanishes-rows-preserved t c = c.rows.invariant ∙ vanish_skip (form (rows_of c.args.rows.now) c.args.bound) c.rows.row (c.args.first + c.args.count) c.rows-test.true (sym c.if-may_vanish.ensures)
