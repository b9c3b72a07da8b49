use Rattle.std.proofs.Common.{◌-◌}
use Rattle.cv_parse_tables.specs.Table.{rows_of}
use Rattle.cv_print_tables.specs.Layout.{layout, one_of}
use Rattle.cv_print_tables.specs.Prints.{Chooses}
use Rattle.cv_print_tables.proofs.belonging.chosen.Given as goal

abbrev pub invariant-rows : goal.invariant-rows
invariant-rows l = Chooses (one_of (layout (rows_of l.rows) l.bound) l.first l.count) l.head (one_of (layout (rows_of l.rows) l.bound) l.row (l.end - l.row))
