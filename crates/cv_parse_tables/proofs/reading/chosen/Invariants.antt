use Rattle.std.proofs.Common.{◌≡◌, ℕ, ◌-◌, drop}
use Rattle.cv_parse_tables.specs.Table.{rows_of, form, one_of, table_reads}
use Rattle.cv_parse_tables.proofs.reading.chosen.Given as goal

abbrev pub invariant-rows : goal.invariant-rows
invariant-rows l = (n : ℕ) → table_reads (rows_of l.rows) n (one_of (form (rows_of l.rows) l.bound) l.first l.count) (drop l.at l.signs) ≡ table_reads (rows_of l.rows) n (one_of (form (rows_of l.rows) l.bound) l.row (l.end - l.row)) (drop l.at l.signs)
