use Rattle.std.proofs.Common.{◌≡◌, ◌≤◌, List, length, take}
use Rattle.cv_pool.specs.KindTree.{KindTree}
use Rattle.cv_directory.specs.Tables.{entries_in}
use Rattle.cv_derive_reasons.specs.cells.Only.{replications_by}
use Rattle.cv_derive_reasons.proofs.cells.variables.replications_of.Given as goal

abbrev pub invariant-indices : goal.invariant-indices
invariant-indices l = record {
  few : length l.found.items ≤ l.k;
  kept : (trees : List KindTree) → l.found.items ≡ take l.k (replications_by ((entries_in trees l.directory).first l.x));
}
