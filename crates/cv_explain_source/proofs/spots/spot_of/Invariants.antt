use Rattle.std.proofs.Common.{◌≡◌, ◌≤◌, ◌+◌, drop}
use Rattle.cv_explain_source.specs.Spots.{column_behind, column_from, line_behind, line_from}
use Rattle.cv_explain_source.proofs.spots.spot_of.Given as goal

abbrev pub invariant-bytes : goal.invariant-bytes
invariant-bytes l = record {
  lines : line_from l.line (drop l.k l.before) ≡ line_behind l.before;
  columns : column_from l.column (drop l.k l.before) ≡ column_behind l.before;
  few_lines : l.line ≤ l.k + 1;
  few_columns : l.column ≤ l.k + 1;
}
