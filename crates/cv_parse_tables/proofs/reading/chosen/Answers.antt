use Rattle.std.proofs.Common.{sym, ◌∙◌, ◌+◌, drop}
use Rattle.cv_parse_tables.proofs.Readers.{choose_found, choose_skip}
use Rattle.cv_parse_tables.proofs.reading.chosen.Goals as goal

pub returns-then-begins_at-clause-some : goal.returns-then-begins_at-clause-some
returns-then-begins_at-clause-some c = λ n. c.rows.invariant n ∙ choose_found c.args.rows.now c.args.bound c.rows.row (c.args.first + c.args.count) (drop c.args.at c.args.signs.now) n c.rows-test.true (sym c.if-begins_at.ensures)

pub rows-preserved : goal.rows-preserved
rows-preserved c = λ n. c.rows.invariant n ∙ choose_skip c.args.rows.now c.args.bound c.rows.row (c.args.first + c.args.count) (drop c.args.at c.args.signs.now) n c.rows-test.true (sym c.if-begins_at.ensures)
