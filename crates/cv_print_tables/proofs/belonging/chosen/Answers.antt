use Rattle.std.proofs.Common.{◌+◌, ◌-◌, ◌∙◌, sym, arith}
use Rattle.cv_parse_tables.specs.Table.{rows_of}
use Rattle.cv_print_tables.specs.Layout.{layout}
use Rattle.cv_print_tables.proofs.Rows.{choose_end, choose_found, choose_skip}
use Rattle.cv_print_tables.proofs.belonging.chosen.Goals as goal

pub returns-then-fits-clause-some : goal.returns-then-fits-clause-some
returns-then-fits-clause-some c = λ names below ts e. c.rows.invariant names below ts e ∙ choose_found (layout (rows_of c.args.rows.now) c.args.bound) c.rows.row (c.args.first + c.args.count) c.args.head c.rows-test.true (sym c.if-fits.ensures) names below ts e

pub rows-preserved : goal.rows-preserved
rows-preserved c = λ names below ts e. c.rows.invariant names below ts e ∙ choose_skip (layout (rows_of c.args.rows.now) c.args.bound) c.rows.row (c.args.first + c.args.count) c.args.head c.rows-test.true (sym c.if-fits.ensures) names below ts e

pub returns-clause-none : goal.returns-clause-none
returns-clause-none c = λ names below ts e. c.rows.invariant names below ts e ∙ choose_end (layout (rows_of c.args.rows.now) c.args.bound) c.rows.row (c.args.first + c.args.count - c.rows.row) c.args.head (let h = c.rows-test.false in omega (arith, h)) names below ts e
