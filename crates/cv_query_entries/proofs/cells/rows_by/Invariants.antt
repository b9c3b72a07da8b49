use Rattle.std.proofs.Common.{◌≡◌, ◌-◌, length, take}
use Rattle.std.specs.Vec.{vec_len}
use Rattle.cv_directory.specs.Tables.{entries_in}
use Rattle.cv_derive_reasons.specs.cells.Only.{replications_by}
use Rattle.cv_query_parts.specs.Views.{trees_of}
use Rattle.cv_query_entries.proofs.cells.rows_by.Given as goal

abbrev pub invariant-rows : goal.invariant-rows
invariant-rows l = record {
  kept : l.rows.items ≡ take (vec_len l.rows) (replications_by ((entries_in (trees_of l.fn.view) l.fn.directory).first l.x));
}

abbrev pub decreases-rows : goal.decreases-rows
decreases-rows l = length (replications_by ((entries_in (trees_of l.fn.view) l.fn.directory).first l.x)) - vec_len l.rows
