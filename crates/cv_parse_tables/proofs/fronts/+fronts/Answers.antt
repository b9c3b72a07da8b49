use Rattle.std.proofs.Common.{sym, ◌∙◌, ◌+◌}
use Rattle.cv_parse_notation.specs.Spells.{kind_of}
use Rattle.cv_parse_tables.specs.Table.{rows_of, form, fronts}
use Rattle.cv_parse_tables.proofs.Rows.{start_skip, starts_row, starts_none, starts_end}
use Rattle.cv_parse_tables.proofs.fronts.+fronts.Goals as goal

pub begins-returns-then-row-bound : goal.begins-returns-then-row-bound
begins-returns-then-row-bound t c = starts_row c.args.rows.now (fronts (rows_of c.args.rows.now) c.args.hops) c.args.bound c.args.row _ (kind_of c.args.sign) _ c.if-row-bound.true c.requires.bound c.pieces_begin.ensures

pub begins-returns : goal.begins-returns
begins-returns t c = sym (starts_none (rows_of c.args.rows.now) c.args.hops c.args.bound c.args.row (kind_of c.args.sign) c.if-row-bound.false)

pub pieces_begin-returns : goal.pieces_begin-returns
pieces_begin-returns t c = sym (c.pieces.invariant ∙ starts_end (rows_of c.args.rows.now) c.args.hops (form (rows_of c.args.rows.now) c.args.bound) c.args.pieces.now c.pieces.piece-index (kind_of c.args.sign) c.pieces-test.false)

pub any_begins-rows-preserved : goal.any_begins-rows-preserved
any_begins-rows-preserved t c = c.rows.invariant ∙ start_skip (fronts (rows_of c.args.rows.now) c.args.hops) (form (rows_of c.args.rows.now) c.args.bound) c.rows.row (c.args.first + c.args.count) (kind_of c.args.sign) c.rows-test.true (sym c.if-begins.ensures)
