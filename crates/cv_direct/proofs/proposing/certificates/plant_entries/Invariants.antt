use Rattle.std.proofs.Common.{ℕ, ◌≤◌, length}
use Rattle.std.specs.Prelude.{All}
use Rattle.cv_pool.specs.PoolView.{Grows}
use Rattle.cv_step_writer.specs.Certificates.{IsEntryBelow}
use Rattle.cv_direct.proofs.proposing.certificates.plant_entries.Given as goal

abbrev pub invariant-loop-entry : goal.invariant-loop-entry
invariant-loop-entry l = record {
  below : (n : ℕ) → length l.pool.trees ≤ n → All (IsEntryBelow n) l.list.items;
  grows : Grows l.fn.pool l.pool;
}
